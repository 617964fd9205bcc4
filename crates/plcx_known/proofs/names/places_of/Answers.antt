use Rattle.std.proofs.Common.{ℕ, List, Option, Bor, option_map, refl, sym, ap, ◌∙◌}
use Rattle.plcx_state.specs.Tables.{number_at, found_or, number_if}
use Rattle.plcx_state.proofs.Tables.{done}
use Rattle.plcx_known.specs.Names.{has_key, is_key}
use Rattle.plcx_known.proofs.Places.{place_map, more_at}
use Rattle.plcx_known.proofs.names.places_of.Goals as goal

pub loop-place-preserved : goal.loop-place-preserved
loop-place-preserved c = λ key.
    let named : Option (Bor (List ℕ)) → Option (List ℕ) = option_map (λ (n : Bor (List ℕ)). n.now) in
    let read = λ (n : Option (List ℕ)). found_or (number_at key c.loop-place.table.entries) (number_if (is_key key n) c.loop-place.place) in
    more_at (λ (n : Bor (List ℕ)). has_key key n.now) (λ o. is_key key (named o)) c.loop-place.place c.args.names.now (number_at key c.loop-place.table.entries) _ _
    c.loop-place-test.true (λ n. refl) (c.in_ok-table.ensures key ∙ ap read c.name_at.ensures) (c.loop-place.invariant key)

pub returns : goal.returns
returns c = λ key.
    done (λ (n : Bor (List ℕ)). has_key key n.now) c.loop-place.place c.args.names.now (number_at key c.loop-place.table.entries) _ c.loop-place-test.false (c.loop-place.invariant key)
    ∙ sym (place_map (has_key key) (λ (n : Bor (List ℕ)). n.now) 0 c.args.names.now)
