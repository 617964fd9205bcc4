use Rattle.std.proofs.Common.{◌≡◌, ◌∙◌, ap, sym, subst, take, true, List, ℕ, rules}
use Rattle.std.specs.List.{list_all}
use Rattle.std.proofs.lemmas.Fn.{always_returns_same}
use Rattle.plcx_xml.proofs.Fronts.{front-all, front-some, unknown}
use Rattle.plcx_xml.specs.Single.{is_single}
use Rattle.plcx_xml.proofs.Singles.{front-single}
use Rattle.plcx_xml.proofs.front.front_of.Goals as goal

pub returns-in-None : goal.returns-in-None
returns-in-None c =
    let found = c.in-None.ensures.cases unknown (always_returns_same _ _ _ (λ a r f k. search rules)) in
    c.as_bytes-bytes.ensures.value ∙ front-all _ c.utf8.text found

pub returns-in-Some : goal.returns-in-Some
returns-in-Some c =
    let found = c.in-Some.ensures.cases in
    let h = found.1 unknown (always_returns_same _ _ _ (λ a r f k. search rules)) in
    ap (take c.in-Some.at) c.as_bytes-bytes.ensures.value ∙ front-some _ c.in-Some.at h.1.0 _ c.utf8.text found.3 h.0 h.1.1 h.1.2.split

pub returns-then-are_single : goal.returns-then-are_single
returns-then-are_single c =
    let single = subst (λ (xs : List ℕ). list_all is_single xs ≡ true) c.as_bytes-bytes.ensures.value (sym c.are_single.ensures ∙ c.if-are_single.true) in
    c.as_bytes-bytes.ensures.value ∙ front-single _ c.utf8.text single
