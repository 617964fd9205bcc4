use Rattle.std.proofs.Common.{◌≡◌, List, Some, Bor, option_map, slice_get, sym, ap, ◌∙◌, ◌++◌, arith}
use Rattle.std.proofs.lemmas.List.{append-nil}
use Rattle.plcx_meaning.specs.Layout.{Leaf as Meant}
use Rattle.plcx_state.specs.Layouts.{all_meant}
use Rattle.plcx_conditions.specs.Places.{placed_number}
use Rattle.plcx_known.specs.Owned.{Typed}
use Rattle.plcx_leaves.specs.Within.{spelled}
use Rattle.plcx_text_layout.specs.Leaves.{leaves}
use Rattle.plcx_text_layout.proofs.Laid.{none_laid}
use Rattle.plcx_text_layout.proofs.Levels.{level_done, found_at, none_at, own_suits}
use Rattle.plcx_text_layout.proofs.leaves.+leaves.Goals as goal

pub with_pou-with_variable-requires : goal.with_pou-with_variable-requires
with_pou-with_variable-requires t c =
    let owners = c.args.owners.now in
    let there : slice_get owners c.args.place ≡ Some c.in-Some.owner.now = sym c.owner_at.ensures ∙ ap (option_map (λ (o : Bor (List Typed)). o.now)) c.in-Some.is in (
      omega arith,
      (
        c.requires,
        own_suits owners c.args.place c.in-Some.owner.now c.variables-variables.result.now c.loop-own.own-index c.own-item.result c.requires there c.variables-variables.ensures c.loop-own-test.true c.own-item.is,
      ),
    )

pub with_pou-returns-clause-shown : goal.with_pou-returns-clause-shown
with_pou-returns-clause-shown t c =
    let owners = c.args.owners.now in
    let names = spelled c.args.within.now in
    let before = all_meant c.args.leaves.items in
    let there : slice_get owners c.args.place ≡ Some c.in-Some.owner.now = sym c.owner_at.ensures ∙ ap (option_map (λ (o : Bor (List Typed)). o.now)) c.in-Some.is in
    level_done owners names c.args.retained c.variables-variables.result.now c.args.levels c.loop-own.own-index (all_meant c.loop-own.more.items) before c.if-levels-eq0.false c.loop-own-test.false c.loop-own.invariant.shown
    ∙ ap (λ (ts : List Typed). before ++ leaves c.args.levels owners names c.args.retained ts) (c.variables-variables.ensures ∙ found_at owners c.args.place c.in-Some.owner.now there)

pub with_variable-initial_of-initial-requires : goal.with_variable-initial_of-initial-requires
with_variable-initial_of-initial-requires t c = λ v is. c.requires.own c.in-Elementary.ty (placed_number v) c.in-Elementary.is (ap (option_map placed_number) is)

pub with_pou-returns-in_default-clause-shown : goal.with_pou-returns-in_default-clause-shown
with_pou-returns-in_default-clause-shown t c =
    let owners = c.args.owners.now in
    let names = spelled c.args.within.now in
    let before = all_meant c.args.leaves.items in
    sym (append-nil before)
    ∙ ap (λ (ls : List Meant). before ++ ls)
    (sym (none_laid c.args.levels owners names c.args.retained) ∙ ap (λ (ts : List Typed). leaves c.args.levels owners names c.args.retained ts) (sym (none_at owners c.args.place (sym c.in_default.ensures))))
