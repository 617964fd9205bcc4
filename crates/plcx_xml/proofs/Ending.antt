-- What the end of the file says of its tree.
use Rattle.std.proofs.Common.{◌≡◌, ◌<◌, ◌≤◌, ℕ, ◌-◌, Bool, true, false, List, [], ◌∷◌, ◌++◌, length, refl, ap, sym, subst, ◌∙◌, inl, inr, arith, None, Some}
use Rattle.std.specs.declared.option.Option.{Option}
use Rattle.std.specs.List.{flat_map, list_all}
use Rattle.std.specs.Str.{IsUtf8, chars}
use Rattle.plcx_xml.specs.Character.{is_character, front_of}
use Rattle.plcx_xml.specs.Grammar.{StandsAt}
use Rattle.plcx_xml.specs.Reading.{◌>>=◌}
use Rattle.plcx_xml.specs.Reads.{token_at}
use Rattle.plcx_xml.specs.Events.{Event, events_of_element, token_events, depth_of_element}
use Rattle.plcx_xml.specs.Nesting.{Place, outset, settled, step, run, below_limit}
use Rattle.plcx_xml.specs.Built.{State, Going, Deep, Broken, state_of, built_events, Ends, Outer, Holds, Reached}
use Rattle.plcx_xml.specs.StandsForTree.{BeginsWith, HasTokens, IsBlankKind, AreBlank, IsTreeOf}
use Rattle.plcx_xml.specs.Faults.{Fails, Stops}
use Rattle.plcx_xml.specs.declared.tree.Element.{Element}
use Rattle.plcx_xml.specs.declared.token.Token.{Token}
use Rattle.plcx_xml.specs.declared.token.Kind.{Kind}
use Rattle.plcx_xml.specs.declared.token.Kind.TheVariants as kind
use Rattle.plcx_xml.specs.declared.building.Build.{Build}
use Rattle.plcx_xml.specs.declared.building.Build.TheVariants as build
use Rattle.plcx_xml.specs.declared.error.XmlError.{XmlError}
use Rattle.plcx_xml.specs.declared.error.XmlError.TheVariants as xml
use Rattle.plcx_xml.proofs.Steps.{some-none}
use Rattle.plcx_xml.proofs.TreeRuns.{run_events, root-runs, root-deep}
use Rattle.plcx_xml.proofs.Links.{run-split, run-any, strict-runs, lenient-runs, run-joined}
use Rattle.plcx_xml.proofs.Reached.{here-parted, front-short, token-none}
use Rattle.plcx_xml.proofs.Fronts.{front-known, front-within, front-full}

blank-kind : (k : Kind) (c : Bool) → IsBlankKind k → step below_limit (record { names = []; closed = c }) k ≡ Some (record { names = []; closed = c })
blank-kind (kind.Start name attributes) c h = absurd h
blank-kind (kind.Empty name attributes) c h = absurd h
blank-kind (kind.End name) c h = absurd h
blank-kind (kind.Text value) c h = rw h refl
blank-kind (kind.Reference value) c h = absurd h
blank-kind (kind.Cdata value) c h = absurd h
blank-kind kind.Comment c h = refl
blank-kind kind.Instruction c h = refl

blank-run : (ts : List Token) (c : Bool) → AreBlank ts → run below_limit ts (record { names = []; closed = c }) ≡ Some (record { names = []; closed = c })
blank-run [] c h = refl
blank-run (t ∷ ts) c h = ap (λ (o : Option Place). o >>= run below_limit ts) (blank-kind t.kind c h.0) ∙ blank-run ts c h.1

-- the root's tokens between blank ones
around-run : (before inner after : List Token) → AreBlank before → run below_limit (before ++ (inner ++ after)) outset ≡ (run below_limit inner outset >>= run below_limit after)
around-run before inner after b =
    run-split below_limit before (inner ++ after) outset
    ∙ (ap (λ (o : Option Place). o >>= run below_limit (inner ++ after)) (blank-run before false b)
    ∙ run-split below_limit inner after outset)

-- the tokens of a tree nest, and aren't too deep
pub tree-through : (bytes : List ℕ) (root : Element) → IsTreeOf bytes root → (ts : List Token) × HasTokens bytes ts × (run below_limit ts outset ≡ Some (settled []))
tree-through bytes root h =
    let s = h.stands in
    let events : run_events false (flat_map token_events s.inner) outset ≡ Some (settled []) = sym (run-joined false (flat_map token_events s.inner) outset) ∙ (ap (λ (es : List Event). run_events false es outset) s.same ∙ root-runs root h.depth) in
    let inner : run below_limit s.inner outset ≡ Some (settled []) = strict-runs s.inner outset (settled []) events in
    (s.before ++ (s.inner ++ s.after), s.tokens, around-run s.before s.inner s.after s.alone.0 ∙ (ap (λ (o : Option Place). o >>= run below_limit s.after) inner ∙ blank-run s.after true s.alone.1))

outer-depth : (done : List Token) (root : Element) → Outer done (events_of_element root) → run below_limit done outset ≡ Some (settled []) → depth_of_element root ≤ 64
outer-depth done root o r = root-deep root (λ stuck.
    let events : run_events true (flat_map token_events o.inner) outset ≡ None = sym (run-joined true (flat_map token_events o.inner) outset) ∙ (ap (λ (es : List Event). run_events true es outset) o.same ∙ stuck) in
    let none : run below_limit o.inner outset ≡ None = lenient-runs o.inner outset events in
    let whole : run below_limit done outset ≡ None = ap (λ (ts : List Token). run below_limit ts outset) o.parted ∙ (around-run o.before o.inner o.after o.alone.0 ∙ ap (λ (p : Option Place). p >>= run below_limit o.after) none) in
    some-none (run below_limit done outset) (settled []) r whole)

-- the root is closed where all is read
pub closed-tree : (bytes : List ℕ) (root : Element) → IsUtf8 bytes → list_all is_character (chars bytes) ≡ true → Reached bytes [] (build.Closed root) → IsTreeOf bytes root
closed-tree bytes root u a m =
    let o = m.holds.1 in
    let whole : HasTokens bytes m.done = record { text = u; characters = a; tokens = m.front } in
    record {
      stands = record { before = o.before; inner = o.inner; after = o.after; tokens = subst (HasTokens bytes) o.parted whole; alone = o.alone; same = o.same };
      depth = outer-depth m.done root o m.holds.0;
    }

open-fails : (bytes : List ℕ) (done : List Token) (es : List Event) (s : State) (e : XmlError) → HasTokens bytes done → Holds done es s → Ends s (length bytes) e → Fails bytes e
open-fails bytes done es s (xml.NotUtf8 at) t h e = absurd e
open-fails bytes done es s (xml.Token at) t h e = absurd e
open-fails bytes done es s (xml.Nesting at) t h (inl e) = (done, t, inl (subst (Holds done es) e h))
open-fails bytes done es (Going p) (xml.Nesting at) t h (inr e) = (done, t, inr (record { place = p; ran = run-any done outset p h.0; open_ = e.0 }, e.1))
open-fails bytes done es (Deep p deep) (xml.Nesting at) t h (inr e) = (done, t, inr (record { place = p; ran = h.0; open_ = e.0 }, e.1))
open-fails bytes done es (Broken broken) (xml.Nesting at) t h (inr e) = absurd e.0
open-fails bytes done es s (xml.TooDeep at) t h e =
    let own = subst (Holds done es) e h in
    (done, t, own.0, own.1)
open-fails bytes done es s xml.NoMemory t h e = tt

-- it is open, broken or too deep
pub ended-fails : (bytes : List ℕ) (b : Build) (e : XmlError) → IsUtf8 bytes → list_all is_character (chars bytes) ≡ true → Reached bytes [] b → Ends (state_of b) (length bytes) e → Fails bytes e
ended-fails bytes b e u a m h = open-fails bytes m.done (built_events b) (state_of b) e (record { text = u; characters = a; tokens = m.front }) m.holds h

-- no token stands in the front
pub front-stops : (bytes front : List ℕ) (e : XmlError) → IsUtf8 bytes → front ≡ front_of bytes → length front ≤ length bytes → Stops front e → Fails bytes e
front-stops bytes front (xml.NotUtf8 at) u f l s = absurd s
front-stops bytes front (xml.Token at) u f l s =
    let here = s.here in
    let more = s.more in (
      u,
      record {
        tokens = s.tokens;
        rest = s.rest;
        front = subst (λ (xs : List ℕ). BeginsWith xs s.tokens s.rest) f s.begins;
        here = s.here ∙ ap (λ (xs : List ℕ). length xs) f;
        none = s.none;
        inside = omega arith;
      },
    )
front-stops bytes front (xml.Nesting at) u f l s = absurd s
front-stops bytes front (xml.TooDeep at) u f l s = absurd s
front-stops bytes front xml.NoMemory u f l s = tt

none-here : (at : ℕ) (t : Token) (after : List ℕ) → StandsAt at [] t after → ⊥
none-here at t after h = let p = here-parted at [] t after h in absurd (omega arith)

-- the front is made of tokens, and is not the whole
pub front-ends : (bytes front : List ℕ) (b : Build) → IsUtf8 bytes → front ≡ front_of bytes → length front < length bytes → Reached front [] b → Fails bytes (xml.Token (length front))
front-ends bytes front b u f l m = (
  u,
  record {
    tokens = m.done;
    rest = [];
    front = subst (λ (xs : List ℕ). BeginsWith xs m.done []) f m.front;
    here = omega (arith, ap (λ (xs : List ℕ). length xs) f);
    none = λ t after h. none-here (length front) t after h;
    inside = l;
  },
)

pub stops-here : (front rest : List ℕ) (b : Build) → Reached front rest b → token_at (length front) rest ≡ None → 0 < length rest → Stops front (xml.Token (length front - length rest))
stops-here front rest b m r l =
    let s = front-short front m.done rest m.front in
    record { tokens = m.done; rest = rest; begins = m.front; here = omega arith; none = token-none front rest m.done m.front r; more = l }

pub nothing_left : (rest : List ℕ) → length rest ≡ 0 → rest ≡ []
nothing_left [] h = refl
nothing_left (x ∷ xs) h = absurd (omega arith)

-- what an error from the tokens says
pub stops-fails : (bytes text front : List ℕ) (e : XmlError) → (text ≡ bytes) × IsUtf8 bytes → front ≡ front_of text → Stops front e → Fails bytes e
stops-fails bytes text front e t f s =
    let own : front ≡ front_of bytes = f ∙ ap front_of t.0 in
    let within = front-within bytes t.1 in
    let size : length front ≡ length (front_of bytes) = ap (λ (xs : List ℕ). length xs) own in
    front-stops bytes front e t.1 own (omega arith) s

pub cut-fails : (bytes text front : List ℕ) (b : Build) → (text ≡ bytes) × IsUtf8 bytes → front ≡ front_of text → length front < length bytes → Reached front [] b → Fails bytes (xml.Token (length front))
cut-fails bytes text front b t f l m = front-ends bytes front b t.1 (f ∙ ap front_of t.0) l m

-- all characters are known
whole-front : (bytes text front : List ℕ) (b : Build) → (text ≡ bytes) × IsUtf8 bytes → front ≡ front_of text → length bytes ≤ length front → Reached front [] b → (list_all is_character (chars bytes) ≡ true) × Reached bytes [] b
whole-front bytes text front b t f l m =
    let own : front ≡ front_of bytes = f ∙ ap front_of t.0 in
    let size : length front ≡ length (front_of bytes) = ap (λ (xs : List ℕ). length xs) own in
    let full = front-full bytes t.1 (omega arith) in
    (front-known bytes t.1 full, subst (λ (xs : List ℕ). Reached xs [] b) (own ∙ full) m)

pub end-fails : (bytes text front : List ℕ) (b : Build) (e : XmlError) → (text ≡ bytes) × IsUtf8 bytes → front ≡ front_of text → length bytes ≤ length front → Reached front [] b → Ends (state_of b) (length bytes) e → Fails bytes e
end-fails bytes text front b e t f l m h = let w = whole-front bytes text front b t f l m in ended-fails bytes b e t.1 w.0 w.1 h

pub end-tree : (bytes text front : List ℕ) (b : Build) (root : Element) → (text ≡ bytes) × IsUtf8 bytes → front ≡ front_of text → length bytes ≤ length front → Reached front [] b → b ≡ build.Closed root → IsTreeOf bytes root
end-tree bytes text front b root t f l m h =
    let w = whole-front bytes text front b t f l m in
    closed-tree bytes root t.1 w.0 (subst (Reached bytes []) h w.1)
