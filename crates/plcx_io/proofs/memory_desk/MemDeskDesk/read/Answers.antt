use Rattle.std.proofs.Common.{◌≡◌, ◌<◌, ◌^◌, length, refl, sym, ◌∙◌, Some, vec_len}
use Rattle.std.specs.Vec.{with_items}
use Rattle.std.proofs.Math.Bool.{or-false}
use Rattle.std.proofs.lemmas.List.{with_items_is}
use Rattle.plcx_io.specs.Memory.{file_named}
use Rattle.plcx_io.proofs.FilesByName.{IsCounted, faults-counted, faults-later, faults-rose}
use Rattle.plcx_io.proofs.memory_desk.MemDeskDesk.read.Goals as goal

pub returns-in-Some-clause-later : goal.returns-in-Some-clause-later
returns-in-Some-clause-later c = λ other.
    let found : file_named c.self.inside.files.items c.args.name.now ≡ Some c.in-Some.field-0.now = rw c.deref-2.ensures.value at (sym c.in-Some.ensures) in
    let len : length c.count_fault.new.files ≡ vec_len c.self.inside.files = c.count_fault.auto.files ∙ c.deref_mut.ensures.len in
    let counted : IsCounted c.self.inside.files.items (with_items c.self.inside.files c.count_fault.new.files).items c.args.name.now = rw (with_items_is c.self.inside.files c.count_fault.new.files len) (rw c.deref_mut.ensures.value at c.count_fault.ensures.counted) in
    let range : c.in-Some.field-0.now.faults < 2 ^ 64 = rw (c.deref_mut.ensures.value, found) at c.count_fault.ensures.range in
    rw (← c.self.view_is) (faults-later _ _ _ _ other _ found range counted _ refl)

pub returns-in-Some-clause-cause : goal.returns-in-Some-clause-cause
returns-in-Some-clause-cause c =
    let found : file_named c.self.inside.files.items c.args.name.now ≡ Some c.in-Some.field-0.now = rw c.deref-2.ensures.value at (sym c.in-Some.ensures) in
    let len : length c.count_fault.new.files ≡ vec_len c.self.inside.files = c.count_fault.auto.files ∙ c.deref_mut.ensures.len in
    let counted : IsCounted c.self.inside.files.items (with_items c.self.inside.files c.count_fault.new.files).items c.args.name.now = rw (with_items_is c.self.inside.files c.count_fault.new.files len) (rw c.deref_mut.ensures.value at c.count_fault.ensures.counted) in
    rw (← c.self.view_is) (faults-rose _ _ _ _ _ found counted)

pub returns-in-Some-clause-counted : goal.returns-in-Some-clause-counted
returns-in-Some-clause-counted c = λ other.
    let found : file_named c.self.inside.files.items c.args.name.now ≡ Some c.in-Some.field-0.now = rw c.deref-2.ensures.value at (sym c.in-Some.ensures) in
    let len : length c.count_fault.new.files ≡ vec_len c.self.inside.files = c.count_fault.auto.files ∙ c.deref_mut.ensures.len in
    let counted : IsCounted c.self.inside.files.items (with_items c.self.inside.files c.count_fault.new.files).items c.args.name.now = rw (with_items_is c.self.inside.files c.count_fault.new.files len) (rw c.deref_mut.ensures.value at c.count_fault.ensures.counted) in
    rw (← c.self.view_is, found) (faults-counted _ _ _ _ other _ found counted _ (sym (or-false _)))
