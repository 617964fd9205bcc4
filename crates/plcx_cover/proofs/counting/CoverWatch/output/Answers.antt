use Rattle.std.proofs.Common.{◌≡◌, ◌∙◌, List, [], ◌∷◌, slice_set, sym, ap, subst, arith}
use Rattle.std.proofs.Math.Seq.{map-set_same}
use Rattle.std.proofs.lemmas.Option.{slice_get_within, get_or_from_slice_get}
use Rattle.std.specs.List.{IsDistinct}
use Rattle.std.specs.Prelude.{map}
use Rattle.plcx_meaning.specs.Evaluate.{Heard}
use Rattle.plcx_cover.specs.declared.counting.CoverRow.{CoverRow}
use Rattle.plcx_cover.specs.Counts.{all_grown}
use Rattle.plcx_cover.specs.Keys.{key_of, same_key, heard_key, HasNone, IsAt}
use Rattle.plcx_cover.proofs.Placed.{counted, none_changed, one_changed}
use Rattle.plcx_cover.proofs.counting.CoverWatch.output.Goals as goal

pub returns-in_default : goal.returns-in_default
returns-in_default c =
    let h : Heard = record { pou = c.args.pou; id = c.args.local_id; number = c.args.pin; value = c.args.value } in
    let rows = c.self.inside.rows.items in
    let none = subst (HasNone (heard_key h)) c.deref-2.ensures.value c.in_default.ensures.place in
    sym (subst (λ (xs : List CoverRow). all_grown (h ∷ []) xs ≡ xs) c.self.view_is (none_changed h rows none))

pub index-requires : goal.index-requires
index-requires c =
    let at = c.in-Some.ensures.place in
    let low = slice_get_within c.deref-2.result.now c.in-Some.place at.row at.there in
    omega (arith, low, c.deref-2.ensures.len)

pub index_mut-requires : goal.index_mut-requires
index_mut-requires c =
    let at = c.in-Some.ensures.place in
    let low = slice_get_within c.deref-2.result.now c.in-Some.place at.row at.there in
    omega (arith, low, c.deref-2.ensures.len)

pub invariant_of-self : goal.invariant_of-self
invariant_of-self c =
    c.self.invariant
    ∙ sym (map-set_same key_of c.self.inside.rows.items c.in-Some.place c.counted.result c.index.result.now (ap key_of c.counted.ensures ∙ ap key_of c.index.ensures))

pub returns : goal.returns
returns c =
    let h : Heard = record { pou = c.args.pou; id = c.args.local_id; number = c.args.pin; value = c.args.value } in
    let rows = c.self.inside.rows.items in
    let place = c.in-Some.place in
    let at : IsAt (heard_key h) rows place = subst (λ (xs : List CoverRow). IsAt (heard_key h) xs place) c.deref-2.ensures.value c.in-Some.ensures.place in
    let distinct = subst (λ (xs : List CoverRow). IsDistinct same_key (map key_of xs)) c.deref-2.ensures.value c.place_in.ensures.distinct in
    ap (slice_set rows place) (c.counted.ensures ∙ ap (counted h) (c.index.ensures ∙ get_or_from_slice_get rows place at.row c.index.result.now at.there))
    ∙ sym (one_changed h rows place at.row at.there at.is distinct)
    ∙ ap (all_grown (h ∷ [])) c.self.view_is
