use Rattle.std.proofs.Common.{◌≡◌, ◌∷◌, ◌∙◌, Bool, true, false, List, [], ap, sym, if◌then◌else◌}
use Rattle.csv.specs.Records.{fields_of}
use Rattle.plcx_scan.specs.Files.{Record}
use Rattle.plcx_scan.specs.Readers.{left_of}
use Rattle.plcx_scan.proofs.Left.{reads, goes_on}
use Rattle.plcx_scan.proofs.record.Records.read.Goals as goal
use Rattle.plcx_scan.proofs.record.Records.read.Goals.{in-Ok-true, in-Ok-false, in-Err}

pub invariant_of-self : goal.invariant_of-self
invariant_of-self c =
    λ going.
    let is = c.self.invariant going in
    let took = c.in-Ok-true.ensures in
    goes_on c.self.inside.reader c.read_byte_record.new.self (fields_of c.read_byte_record.new.row) is took.goes (took.ready is.trim_is) (rw c.in-Ok-true.field-0-test at (took.reads is.trim_is is.ready))

pub returns : goal.returns
returns c =
    let a = c.self.inside.reader in
    let b = c.read_byte_record.new.self in
    let fields = fields_of c.read_byte_record.new.row in
    let is = c.self.invariant c.if-self.false in
    let whole : c.args.self.now ≡ left_of a = sym c.self.view_is ∙ ap (λ (ended : Bool). if ended then [] else left_of a) c.if-self.false in
    elim c.match-read_byte_record.branch [
      | in-Ok-true w ↦
          let r = rw w.in-Ok-true.field-0-test at (w.in-Ok-true.ensures.reads is.trim_is is.ready) in
          let rest : c.match-read_byte_record.self ≡ left_of b = w.self-is ∙ ap (λ (ended : Bool). if ended then [] else left_of b) c.if-self.false in
          let first : c.args.self.now ≡ fields ∷ c.match-read_byte_record.self = whole ∙ reads a b true fields is r ∙ ap (λ (t : List Record). fields ∷ t) (sym rest) in
          rw w.result-is first
      | in-Ok-false w ↦
          let r = rw w.in-Ok-false.field-0-test at (w.in-Ok-false.ensures.reads is.trim_is is.ready) in
          let none : c.args.self.now ≡ [] = whole ∙ reads a b false fields is r in
          rw w.result-is none
      | in-Err w ↦ rw w.result-is tt
    ]
