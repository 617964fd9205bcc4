use Rattle.std.proofs.Common.{◌∙◌, refl, sym}
use Rattle.plcx_io.proofs.FilesByName.{file_named-at, file_named-none, file_named-counted, file_named-uncounted}
use Rattle.plcx_io.proofs.memory_desk.count_fault.Goals as goal

pub returns-in-Some-clause-counted : goal.returns-in-Some-clause-counted
returns-in-Some-clause-counted c = λ other.
    rw c.fail.ensures.counted (file_named-counted c.args.files.now c.in-Some.at c.index-files-at.result c.args.name.now other (sym c.place_of.ensures ∙ c.in-Some.is) _ refl)

pub returns-in-Some-clause-range : goal.returns-in-Some-clause-range
returns-in-Some-clause-range c =
    rw (file_named-at c.args.files.now c.in-Some.at c.index-files-at.result c.args.name.now (sym c.place_of.ensures ∙ c.in-Some.is)).0 c.fail.ensures.range

pub returns-in_default-clause-counted : goal.returns-in_default-clause-counted
returns-in_default-clause-counted c = λ other.
    file_named-uncounted c.args.files.now c.args.name.now other (sym c.place_of.ensures ∙ c.in_default.is) _ refl

pub returns-in_default-clause-range : goal.returns-in_default-clause-range
returns-in_default-clause-range c =
    rw (file_named-none c.args.files.now c.args.name.now (sym c.place_of.ensures ∙ c.in_default.is)) tt
