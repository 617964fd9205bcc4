-- A file has one list of tokens at most, and no tree where it has a fault.
use Rattle.std.proofs.Common.{◌≡◌, ◌<◌, ℕ, ◌+◌, Bool, true, false, List, [], ◌∷◌, ◌++◌, length, drop, refl, ap, sym, subst, ◌∙◌, ◌⊎◌, inl, inr, arith, None, Some, append-nil}
use Rattle.std.specs.declared.option.Option.{Option}
use Rattle.plcx_xml.specs.Character.{front_of}
use Rattle.plcx_xml.specs.Grammar.{StandsAt, AreTokens}
use Rattle.plcx_xml.specs.Reading.{◌>>=◌}
use Rattle.plcx_xml.specs.Nesting.{Place, outset, settled, run, any_depth, below_limit}
use Rattle.plcx_xml.specs.StandsForTree.{mark_len, BeginsWith, HasTokens, IsTreeOf}
use Rattle.plcx_xml.specs.Faults.{IsTokenPlace, IsFirstRefused, IsUnended, Fails}
use Rattle.plcx_xml.specs.declared.tree.Element.{Element}
use Rattle.plcx_xml.specs.declared.token.Token.{Token}
use Rattle.plcx_xml.specs.declared.error.XmlError.{XmlError}
use Rattle.plcx_xml.specs.declared.error.XmlError.TheVariants as xml
use Rattle.plcx_xml.proofs.Steps.{some_inj, some-none}
use Rattle.plcx_xml.proofs.TokenLaws.{token-again}
use Rattle.plcx_xml.proofs.Links.{run-split, run-any}
use Rattle.plcx_xml.proofs.Reached.{here-parted, offset-next, mark-offset}
use Rattle.plcx_xml.proofs.Fronts.{front-whole}
use Rattle.plcx_xml.proofs.Ending.{tree-through}

none-here : (at : ℕ) (bytes : List ℕ) (t : Token) (after : List ℕ) → bytes ≡ [] → StandsAt at bytes t after → ⊥
none-here at bytes t after e h =
    let p = here-parted at bytes t after h in
    let n : length bytes ≡ 0 = ap (λ (xs : List ℕ). length xs) e in
    absurd (omega arith)

pub here-one : (last at : ℕ) (bytes : List ℕ) (t u : Token) (x y : List ℕ) → StandsAt at bytes t x → StandsAt at bytes u y → at + length bytes ≡ last → ◌≡◌ {A = Token × List ℕ} (u, y) (t, x)
here-one last at bytes t u x y h k l = some_inj (u, y) (t, x) (sym (token-again last at bytes u y k l) ∙ token-again last at bytes t x h l)

-- tokens that begin alike go on with the rest
pub record GoesOn (last : ℕ) (us ts : List Token) (rest : List ℕ) : Type 0 where
  pub at : ℕ
  pub offset : at + length rest ≡ last
  pub more : List Token
  pub parted : us ≡ ts ++ more
  pub stand : AreTokens at rest more []

goes-on : (last at : ℕ) (bytes : List ℕ) (ts us : List Token) (rest : List ℕ) → AreTokens at bytes ts rest → AreTokens at bytes us [] → at + length bytes ≡ last → GoesOn last us ts rest
goes-on last at bytes [] us rest h k l = record {
  at = at;
  offset = subst (λ (xs : List ℕ). at + length xs ≡ last) h l;
  more = us;
  parted = refl;
  stand = subst (λ (xs : List ℕ). AreTokens at xs us []) h k;
}
goes-on last at bytes (t ∷ ts) [] rest h k l = absurd (none-here at bytes t h.0 k h.1)
goes-on last at bytes (t ∷ ts) (u ∷ us) rest h k l =
    let same = here-one last at bytes t u h.0 k.0 h.1 k.1 l in
    let token : u ≡ t = ap (λ (x : Token × List ℕ). x.0) same in
    let after : k.0 ≡ h.0 = ap (λ (x : Token × List ℕ). x.1) same in
    let more : AreTokens t.span.end h.0 us [] = subst (λ (x : Token × List ℕ). AreTokens x.0.span.end x.1 us []) same k.2 in
    let g = goes-on last t.span.end h.0 ts us rest h.2 more (offset-next last at bytes t h.0 h.1 l) in
    record {
      at = g.at;
      offset = g.offset;
      more = g.more;
      parted = ap (λ (x : Token). x ∷ us) token ∙ ap (λ (xs : List Token). t ∷ xs) g.parted;
      stand = g.stand;
    }

ended : (at : ℕ) (us : List Token) → AreTokens at [] us [] → us ≡ []
ended at [] k = refl
ended at (u ∷ us) k = absurd (none-here at [] u k.0 refl k.1)

pub file-tokens-one : (bytes : List ℕ) (ts us : List Token) → HasTokens bytes ts → HasTokens bytes us → ts ≡ us
file-tokens-one bytes ts us h k =
    let g = goes-on (length bytes) (mark_len bytes) (drop (mark_len bytes) bytes) ts us [] h.tokens k.tokens (mark-offset bytes) in
    sym (g.parted ∙ (ap (λ (xs : List Token). ts ++ xs) (ended g.at g.more g.stand) ∙ append-nil ts))

-- a token that may not stand there stops all that follow
pub refused-run : (allows : ℕ → Bool) (ts : List Token) (at : ℕ) → IsFirstRefused allows ts at → run allows ts outset ≡ None
refused-run allows ts at f =
    ap (λ (xs : List Token). run allows xs outset) f.parted
    ∙ (run-split allows f.before (f.token ∷ f.after) outset
    ∙ (ap (λ (o : Option Place). o >>= run allows (f.token ∷ f.after)) f.ran ∙ ap (λ (o : Option Place). o >>= run allows f.after) f.refused))

pub open-not : (p : Place) → p ≡ settled [] → p.closed ≡ false → ⊥
open-not p e c = let t : p.closed ≡ true = ap (λ (q : Place). q.closed) e in let no : ⊥ = cc in no

pub no-token : (bytes : List ℕ) (at : ℕ) (ts : List Token) → HasTokens bytes ts → IsTokenPlace bytes at → ⊥
no-token bytes at ts t p =
    let whole : front_of bytes ≡ bytes = front-whole bytes t.text t.characters in
    let front : BeginsWith bytes p.tokens p.rest = subst (λ (xs : List ℕ). BeginsWith xs p.tokens p.rest) whole p.front in
    let here : at + length p.rest ≡ length bytes = p.here ∙ ap (λ (xs : List ℕ). length xs) whole in
    let inside = p.inside in
    let g = goes-on (length bytes) (mark_len bytes) (drop (mark_len bytes) bytes) p.tokens ts p.rest front t.tokens (mark-offset bytes) in
    let offset = g.offset in
    of g.at (omega arith) inside here g.more g.stand
  where
    of : (o : ℕ) → o ≡ at → at < length bytes → at + length p.rest ≡ length bytes → (us : List Token) → AreTokens o p.rest us [] → ⊥
    of o e i h [] k = let n : length p.rest ≡ 0 = ap (λ (xs : List ℕ). length xs) k in absurd (omega arith)
    of o e i h (u ∷ us) k = p.none u k.0 (subst (λ (n : ℕ). StandsAt n p.rest u k.0) e k.1)

pub no-tree : (bytes : List ℕ) (e : XmlError) (root : Element) → (e ≡ xml.NoMemory → ⊥) → Fails bytes e → IsTreeOf bytes root → ⊥
no-tree bytes (xml.NotUtf8 at) root n f h = let t = tree-through bytes root h in f.0 t.1.text
no-tree bytes (xml.Token at) root n f h = let t = tree-through bytes root h in no-token bytes at t.0 t.1 f.1
no-tree bytes (xml.Nesting at) root n f h =
    let t = tree-through bytes root h in
    let same = file-tokens-one bytes f.0 t.0 f.1 t.1 in
    let ran : run any_depth f.0 outset ≡ Some (settled []) = ap (λ (ts : List Token). run any_depth ts outset) same ∙ run-any t.0 outset (settled []) t.2 in
    of ran f.2
  where
    of : run any_depth f.0 outset ≡ Some (settled []) → IsFirstRefused any_depth f.0 at ⊎ (IsUnended f.0 × (at ≡ length bytes)) → ⊥
    of r (inl x) = some-none (run any_depth f.0 outset) (settled []) r (refused-run any_depth f.0 at x)
    of r (inr x) = open-not x.0.place (some_inj x.0.place (settled []) (sym x.0.ran ∙ r)) x.0.open_
no-tree bytes (xml.TooDeep at) root n f h =
    let t = tree-through bytes root h in
    let same = file-tokens-one bytes f.0 t.0 f.1 t.1 in
    some-none (run below_limit f.0 outset) (settled []) (ap (λ (ts : List Token). run below_limit ts outset) same ∙ t.2) (refused-run below_limit f.0 at f.3)
no-tree bytes xml.NoMemory root n f h = absurd (n refl)
