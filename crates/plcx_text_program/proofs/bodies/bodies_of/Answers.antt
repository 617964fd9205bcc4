use Rattle.std.proofs.Common.{◌≡◌, ◌+◌, List, Some, length, slice_get, refl, sym, subst, arith}
use Rattle.std.proofs.lemmas.Option.{slice_get_read}
use Rattle.plcx_steps.specs.declared.program.Body.{Body}
use Rattle.plcx_text_program.proofs.BareBodies.{FirstAreBare, one_more, all_bare}
use Rattle.plcx_text_program.proofs.bodies.bodies_of.Goals as goal

pub loop-place-preserved : goal.loop-place-preserved
loop-place-preserved c =
    let pous = c.args.tables.now in
    let entries = c.args.entries.now in
    let place = c.loop-place.place in
    let here = c.index-entries-place.result in
    let begins : slice_get entries place ≡ Some here = slice_get_read entries (length entries) place here refl c.loop-place-test.true c.index-entries-place.is in
    subst (λ (bs : List Body). FirstAreBare pous entries (place + 1) bs) (sym {A = List Body} (c.in_ok-push.ensures).items)
    (one_more pous entries place c.loop-place.bodies.items here c.bare.result c.loop-place.invariant begins c.bare.ensures)

pub returns : goal.returns
returns c =
    let pous = c.args.tables.now in
    let entries = c.args.entries.now in
    let ends : c.loop-place.place ≡ length entries = (let low = c.loop-place-test.false in let high = c.loop-place.auto.place-end in omega arith) in
    all_bare pous entries c.loop-place.bodies.items c.requires.count (subst (λ n. FirstAreBare pous entries n c.loop-place.bodies.items) ends c.loop-place.invariant)
