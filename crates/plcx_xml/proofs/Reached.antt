-- How far reading has come, token by token.
use Rattle.std.proofs.Common.{◌≡◌, ◌<◌, ◌≤◌, ℕ, ◌+◌, ◌-◌, Bool, true, false, List, [], ◌∷◌, ◌++◌, length, take, drop, refl, ap, sym, subst, ◌∙◌, arith, cond, None, Some, append_assoc, length-append, length-drop}
use Rattle.std.specs.declared.option.Option.{Option}
use Rattle.std.specs.Str.{bytes_eq}
use Rattle.std.proofs.lemmas.Slice.Eq.{bytes_eq-Decides}
use Rattle.plcx_types.specs.declared.span.Span.{Span}
use Rattle.plcx_xml.specs.Grammar.{SpellsTag, SpellsKind, StandsAt, AreTokens}
use Rattle.plcx_xml.specs.Reading.{◌>>=◌}
use Rattle.plcx_xml.specs.Reads.{token_at}
use Rattle.plcx_xml.specs.Events.{Event}
use Rattle.plcx_xml.specs.Nesting.{Place, outset, step, run, any_depth, below_limit}
use Rattle.plcx_xml.specs.Built.{State, Going, Deep, Broken, state_of, names_of, built_events, next, went, held, with_token, Keeps, PartsOf, Holds, Reached}
use Rattle.plcx_xml.specs.StandsForTree.{mark_len, BeginsWith}
use Rattle.plcx_xml.specs.Faults.{IsFirstRefused}
use Rattle.plcx_xml.specs.declared.tree.Attribute.{Attribute}
use Rattle.plcx_xml.specs.declared.token.Token.{Token}
use Rattle.plcx_xml.specs.declared.token.Kind.{Kind}
use Rattle.plcx_xml.specs.declared.token.Kind.TheVariants as kind
use Rattle.plcx_xml.specs.declared.building.Build.{Build}
use Rattle.plcx_xml.specs.declared.building.Build.TheVariants as build
use Rattle.plcx_xml.proofs.Steps.{some-none}
use Rattle.plcx_xml.proofs.TokenLaws.{token-sound, token-again}
use Rattle.plcx_xml.proofs.TreeParts.{parts-step}
use Rattle.plcx_xml.proofs.Links.{run-split, run-any}

tag-long : (at : ℕ) (name : List ℕ) (attributes : List Attribute) (close text : List ℕ) → SpellsTag at name attributes close text → 0 < length text
tag-long at name attributes close text s =
    let e : length text ≡ length (60 ∷ (name ++ (s.middle ++ (s.space ++ close)))) = ap (λ (xs : List ℕ). length xs) s.all in
    omega arith

spelled-long : (at : ℕ) (k : Kind) (text : List ℕ) → SpellsKind at k text → 0 < length text
spelled-long at (kind.Start name attributes) text s = tag-long at name attributes (62 ∷ []) text s
spelled-long at (kind.Empty name attributes) text s = tag-long at name attributes (47 ∷ 62 ∷ []) text s
spelled-long at (kind.End name) text s =
    let e : length text ≡ length (60 ∷ 47 ∷ (name ++ (s.space ++ 62 ∷ []))) = ap (λ (xs : List ℕ). length xs) s.all in
    omega arith
spelled-long at (kind.Text value) text s = let e : length text ≡ length value = ap (λ (xs : List ℕ). length xs) s.0 in let some = s.1 in omega arith
spelled-long at (kind.Reference value) text s =
    let e : length text ≡ length (38 ∷ (s.1.name ++ (59 ∷ []))) = ap (λ (xs : List ℕ). length xs) s.1.all in
    omega arith
spelled-long at (kind.Cdata value) text s =
    let e : length text ≡ length (60 ∷ 33 ∷ 91 ∷ 67 ∷ 68 ∷ 65 ∷ 84 ∷ 65 ∷ 91 ∷ (value ++ (93 ∷ 93 ∷ 62 ∷ []))) = ap (λ (xs : List ℕ). length xs) s.all in
    omega arith
spelled-long at kind.Comment text s =
    let e : length text ≡ length (60 ∷ 33 ∷ 45 ∷ 45 ∷ (s.0 ++ (45 ∷ 45 ∷ 62 ∷ []))) = ap (λ (xs : List ℕ). length xs) s.1.all in
    omega arith
spelled-long at kind.Instruction text s =
    let e : length text ≡ length (60 ∷ 63 ∷ (s.0 ++ (63 ∷ 62 ∷ []))) = ap (λ (xs : List ℕ). length xs) s.1.all in
    omega arith

pub here-parted : (at : ℕ) (bytes : List ℕ) (t : Token) (rest : List ℕ) (h : StandsAt at bytes t rest) → (0 < length h.text) × (length bytes ≡ length h.text + length rest) × (t.span.end ≡ at + length h.text)
here-parted at bytes t rest h = (spelled-long at t.kind h.text h.spelled, ap (λ (xs : List ℕ). length xs) h.split ∙ length-append h.text rest, ap (λ (s : Span). s.end) h.spanned)

pub offset-next : (last at : ℕ) (bytes : List ℕ) (t : Token) (rest : List ℕ) → StandsAt at bytes t rest → at + length bytes ≡ last → t.span.end + length rest ≡ last
offset-next last at bytes t rest h l =
    let p = here-parted at bytes t rest h in
    omega arith

tokens-short : (at : ℕ) (bytes : List ℕ) (ts : List Token) (rest : List ℕ) → AreTokens at bytes ts rest → length rest ≤ length bytes
tokens-short at bytes [] rest h = let e : length bytes ≡ length rest = ap (λ (xs : List ℕ). length xs) h in omega arith
tokens-short at bytes (t ∷ ts) rest h =
    let p = here-parted at bytes t h.0 h.1 in
    let s = tokens-short t.span.end h.0 ts rest h.2 in
    omega arith

tokens-snoc : (last at : ℕ) (bytes : List ℕ) (ts : List Token) (rest : List ℕ) (t : Token) (after : List ℕ) → AreTokens at bytes ts rest → at + length bytes ≡ last → token_at last rest ≡ Some (t, after) → AreTokens at bytes (ts ++ t ∷ []) after
tokens-snoc last at bytes [] rest t after h l r = (after, token-sound last at bytes t after (ap (token_at last) h ∙ r) l, refl)
tokens-snoc last at bytes (u ∷ us) rest t after h l r = (h.0, h.1, tokens-snoc last u.span.end h.0 us rest t after h.2 (offset-next last at bytes u h.0 h.1 l) r)

three : (bytes : List ℕ) → take 3 bytes ≡ 0xEF ∷ 0xBB ∷ 0xBF ∷ [] → 3 ≤ length bytes
three [] h = let no : ⊥ = cc in absurd no
three (a ∷ []) h = let no : ⊥ = cc in absurd no
three (a ∷ (b ∷ [])) h = let no : ⊥ = cc in absurd no
three (a ∷ (b ∷ (c ∷ xs))) h = omega arith

pub mark-within : (bytes : List ℕ) → mark_len bytes ≤ length bytes
mark-within bytes = of (bytes_eq (take 3 bytes) (0xEF ∷ 0xBB ∷ 0xBF ∷ [])) refl
  where
    of : (b : Bool) → bytes_eq (take 3 bytes) (0xEF ∷ 0xBB ∷ 0xBF ∷ []) ≡ b → cond b 3 0 ≤ length bytes
    of true e = three bytes ((bytes_eq-Decides (take 3 bytes) (0xEF ∷ 0xBB ∷ 0xBF ∷ [])).0 e)
    of false e = omega arith

pub mark-offset : (bytes : List ℕ) → mark_len bytes + length (drop (mark_len bytes) bytes) ≡ length bytes
mark-offset bytes = let m = mark-within bytes in let d = length-drop (mark_len bytes) bytes in omega arith

pub front-short : (whole : List ℕ) (ts : List Token) (rest : List ℕ) → BeginsWith whole ts rest → length rest ≤ length whole
front-short whole ts rest h =
    let s = tokens-short (mark_len whole) (drop (mark_len whole) whole) ts rest h in
    let m = mark-offset whole in
    omega arith

-- the next token is shorter than what is left
pub token-shorter : (whole rest after : List ℕ) (b : Build) (t : Token) → Reached whole rest b → token_at (length whole) rest ≡ Some (t, after) → length after < length rest
token-shorter whole rest after b t m r =
    let s = front-short whole m.done rest m.front in
    let here = token-sound (length whole) (length whole - length rest) rest t after r (omega arith) in
    let p = here-parted (length whole - length rest) rest t after here in
    omega arith

-- where none is read none stands
pub token-none : (whole rest : List ℕ) (ts : List Token) → BeginsWith whole ts rest → token_at (length whole) rest ≡ None → (t : Token) (after : List ℕ) → StandsAt (length whole - length rest) rest t after → ⊥
token-none whole rest ts h r t after here =
    let s = front-short whole ts rest h in
    some-none (token_at (length whole) rest) (t, after) (token-again (length whole) (length whole - length rest) rest t after here (omega arith)) r

first-more : (allows : ℕ → Bool) (ts us : List Token) (at : ℕ) → IsFirstRefused allows ts at → IsFirstRefused allows (ts ++ us) at
first-more allows ts us at f = record {
  before = f.before;
  token = f.token;
  after = f.after ++ us;
  place = f.place;
  parted = ap (λ (xs : List Token). xs ++ us) f.parted ∙ append_assoc f.before (f.token ∷ f.after) us;
  ran = f.ran;
  refused = f.refused;
  start = f.start;
}

first-here : (allows : ℕ → Bool) (done : List Token) (p : Place) (t : Token) → run allows done outset ≡ Some p → step allows p t.kind ≡ None → IsFirstRefused allows (done ++ t ∷ []) t.span.start
first-here allows done p t r s = record { before = done; token = t; after = []; place = p; parted = refl; ran = r; refused = s; start = refl }

run-one : (allows : ℕ → Bool) (done : List Token) (t : Token) (p q : Place) → run allows done outset ≡ Some p → step allows p t.kind ≡ Some q → run allows (done ++ t ∷ []) outset ≡ Some q
run-one allows done t p q h k =
    run-split allows done (t ∷ []) outset ∙ (ap (λ (o : Option Place). o >>= run allows (t ∷ [])) h ∙ ap (λ (o : Option Place). o >>= run allows []) k)

deep-step : (done : List Token) (events : List Event) (p : Place) (deep : ℕ) (t : Token) (o : Option Place) → run any_depth done outset ≡ Some p → IsFirstRefused below_limit (done ++ t ∷ []) deep → step any_depth p t.kind ≡ o → Holds (done ++ t ∷ []) events (held o deep t.span.start)
deep-step done events p deep t (Some q) r f e = (run-one any_depth done t p q r e, f)
deep-step done events p deep t None r f e = first-here any_depth done p t r e

going-step : (done : List Token) (events : List Event) (p : Place) (t : Token) (o : Option Place) → run below_limit done outset ≡ Some p → PartsOf done events p.names p.closed → step below_limit p t.kind ≡ o → Holds (done ++ t ∷ []) (with_token events p.names t.kind t.span) (went o (step any_depth p t.kind) t.span.start)
going-step done events p t (Some q) r h e = (run-one below_limit done t p q r e, parts-step done events p q t h e)
going-step done events p t None r h e =
    deep-step done (with_token events p.names t.kind t.span) p t.span.start t (step any_depth p t.kind) (run-any done outset p r) (first-here below_limit done p t r e) refl

holds-step : (done : List Token) (events : List Event) (s : State) (t : Token) → Holds done events s → Holds (done ++ t ∷ []) (with_token events (names_of s) t.kind t.span) (next s t.kind t.span.start)
holds-step done events (Going p) t h = going-step done events p t (step below_limit p t.kind) h.0 h.1 refl
holds-step done events (Deep p deep) t h =
    deep-step done (with_token events p.names t.kind t.span) p deep t (step any_depth p t.kind) h.0 (first-more below_limit done (t ∷ []) deep h.1) refl
holds-step done events (Broken at) t h = first-more any_depth done (t ∷ []) at h

holds-built : (done : List Token) (es : List Event) (b : Build) → Keeps b es → Holds done es (state_of b) → Holds done (built_events b) (state_of b)
holds-built done es (build.Open frames) k h = rw k h
holds-built done es (build.Closed root) k h = rw k h
holds-built done es (build.Deep names at) k h = h
holds-built done es (build.Broken at) k h = h

-- one more token
pub reached-step : (whole rest after : List ℕ) (b new : Build) (t : Token) → Reached whole rest b → token_at (length whole) rest ≡ Some (t, after) → state_of new ≡ next (state_of b) t.kind t.span.start → Keeps new (with_token (built_events b) (names_of (state_of b)) t.kind t.span) → Reached whole after new
reached-step whole rest after b new t m r s k =
    let es = with_token (built_events b) (names_of (state_of b)) t.kind t.span in
    let moved : Holds (m.done ++ t ∷ []) es (state_of new) = subst (Holds (m.done ++ t ∷ []) es) (sym s) (holds-step m.done (built_events b) (state_of b) t m.holds) in
    record {
      done = m.done ++ t ∷ [];
      front = tokens-snoc (length whole) (mark_len whole) (drop (mark_len whole) whole) m.done rest t after m.front (mark-offset whole) r;
      holds = holds-built (m.done ++ t ∷ []) es new k moved;
    }

pub reached-outset : (whole rest : List ℕ) (b : Build) → drop (mark_len whole) whole ≡ rest → state_of b ≡ Going outset → built_events b ≡ [] → Reached whole rest b
reached-outset whole rest b r s e =
    let own : Holds [] (built_events b) (Going outset) = (refl, (tt, e)) in
    record { done = []; front = r; holds = subst (Holds [] (built_events b)) (sym s) own }
