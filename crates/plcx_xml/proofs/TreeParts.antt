-- How the tokens so far are parted: what is blank before the root, the root's own, and what is blank behind it.
use Rattle.std.proofs.Common.{◌≡◌, ℕ, Bool, true, false, ◌||◌, not, List, [], ◌∷◌, ◌++◌, length, refl, ap, sym, subst, ◌∙◌, cond, None, Some, append_assoc, append-nil, nat_lt}
use Rattle.std.specs.Prelude.{fold}
use Rattle.std.specs.declared.option.Option.{Option}
use Rattle.std.specs.List.{flat_map, list_all}
use Rattle.std.specs.Str.{bytes_eq}
use Rattle.std.proofs.lemmas.List.Concat.{flat_map-append}
use Rattle.std.proofs.lemmas.List.Sums.{fold-append}
use Rattle.plcx_types.specs.declared.span.Span.{Span}
use Rattle.plcx_xml.specs.Character.{is_space}
use Rattle.plcx_xml.specs.Events.{Event, Begin, End, Chars, token_events, joined, with_event}
use Rattle.plcx_xml.specs.Nesting.{Place, is_nil, settled, end_step, text_step, step, below_limit}
use Rattle.plcx_xml.specs.Built.{with_text, with_token, Inner, PartsOf}
use Rattle.plcx_xml.specs.StandsForTree.{IsBlankKind, AreBlank}
use Rattle.plcx_xml.specs.declared.tree.Attribute.{Attribute}
use Rattle.plcx_xml.specs.declared.token.Token.{Token}
use Rattle.plcx_xml.specs.declared.token.Kind.{Kind}
use Rattle.plcx_xml.specs.declared.token.Kind.TheVariants as kind
use Rattle.plcx_xml.proofs.Steps.{guard_some, some_inj}
use Rattle.plcx_xml.proofs.Texts.{with-begin, with-ended}

AreBlank-append : (xs : List Token) (t : Token) → AreBlank xs → IsBlankKind t.kind → AreBlank (xs ++ t ∷ [])
AreBlank-append [] t h k = (k, tt)
AreBlank-append (x ∷ xs) t h k = (h.0, AreBlank-append xs t h.1 k)

-- a token that is put behind the root's own
grown : (inner : List Token) (t : Token) (events more : List Event) → joined (flat_map token_events inner) ≡ events → fold with_event events (token_events t) ≡ more → joined (flat_map token_events (inner ++ t ∷ [])) ≡ more
grown inner t events more h k =
    ap joined (flat_map-append token_events inner (t ∷ []) ∙ ap (λ (es : List Event). flat_map token_events inner ++ es) (append-nil (token_events t)))
    ∙ (fold-append with_event [] (flat_map token_events inner) (token_events t)
    ∙ (ap (λ (es : List Event). fold with_event es (token_events t)) h ∙ k))

grow : (done : List Token) (events more : List Event) (t : Token) → Inner done events → fold with_event events (token_events t) ≡ more → Inner (done ++ t ∷ []) more
grow done events more t h k = record {
  before = h.before;
  inner = h.inner ++ t ∷ [];
  parted = ap (λ (xs : List Token). xs ++ t ∷ []) h.parted ∙ append_assoc h.before h.inner (t ∷ []);
  alone = h.alone;
  same = grown h.inner t events more h.same k;
}

first : (done : List Token) (events more : List Event) (t : Token) → AreBlank done → events ≡ [] → fold with_event events (token_events t) ≡ more → Inner (done ++ t ∷ []) more
first done events more t h e k = record {
  before = done;
  inner = t ∷ [];
  parted = refl;
  alone = h;
  same = ap joined (append-nil (token_events t)) ∙ (ap (λ (es : List Event). fold with_event es (token_events t)) (sym e) ∙ k);
}

settle : (done : List Token) (events : List Event) (ns : List (List ℕ)) → Inner done events → PartsOf done events ns (is_nil ns)
settle done events [] h = record {
  before = h.before;
  inner = h.inner;
  after = [];
  parted = h.parted ∙ ap (λ (xs : List Token). h.before ++ xs) (sym (append-nil h.inner));
  alone = (h.alone, tt);
  same = h.same;
}
settle done events (m ∷ ms) h = h

-- an element begins
start-parts : (done : List Token) (events more : List Event) (names : List (List ℕ)) (t : Token) → PartsOf done events names false → fold with_event events (token_events t) ≡ more → Inner (done ++ t ∷ []) more
start-parts done events more [] t h k = first done events more t h.0 h.1 k
start-parts done events more (m ∷ ms) t h k = grow done events more t h k

-- what an element leaves when it may begin
begin-gives : (c b : Bool) (next q : Place) → ◌≡◌ {A = Option Place} (cond (c || b) None (Some next)) (Some q) → (c ≡ false) × (next ≡ q)
begin-gives true b next q h = let no : ⊥ = cc in absurd no
begin-gives false true next q h = let no : ⊥ = cc in absurd no
begin-gives false false next q h = (refl, some_inj next q h)

end-gives : (m name : List ℕ) (ms : List (List ℕ)) (q : Place) → end_step (m ∷ ms) name ≡ Some q → settled ms ≡ q
end-gives m name ms q h = some_inj (settled ms) q (guard_some (bytes_eq m name) (Some (settled ms)) q h).1

with-both : (es : List Event) (name : List ℕ) (attributes : List Attribute) (start end : ℕ) → with_event (with_event es (Begin name attributes start)) (End name end) ≡ es ++ (Begin name attributes start ∷ End name end ∷ [])
with-both es name attributes start end =
    ap (λ (xs : List Event). with_event xs (End name end)) (with-begin es name attributes start)
    ∙ (with-ended (es ++ Begin name attributes start ∷ []) name end ∙ append_assoc es (Begin name attributes start ∷ []) (End name end ∷ []))

-- blank ones stay outside of the root
blank-parts : (done : List Token) (events : List Event) (c : Bool) (t : Token) → PartsOf done events [] c → IsBlankKind t.kind → PartsOf (done ++ t ∷ []) events [] c
blank-parts done events false t h k = (AreBlank-append done t h.0 k, h.1)
blank-parts done events true t h k = record {
  before = h.before;
  inner = h.inner;
  after = h.after ++ t ∷ [];
  parted = ap (λ (xs : List Token). xs ++ t ∷ []) h.parted ∙ (append_assoc h.before (h.inner ++ h.after) (t ∷ []) ∙ ap (λ (xs : List Token). h.before ++ xs) (append_assoc h.inner h.after (t ∷ [])));
  alone = (h.alone.0, AreBlank-append h.after t h.alone.1 k);
  same = h.same;
}

-- a text, where it may stand
text-parts : (done : List Token) (events : List Event) (ns : List (List ℕ)) (c blank : Bool) (q : Place) (value : List ℕ) (t : Token) → PartsOf done events ns c → text_step (record { names = ns; closed = c }) ns blank ≡ Some q → (blank ≡ true → IsBlankKind t.kind) → token_events t ≡ Chars value t.span ∷ [] → PartsOf (done ++ t ∷ []) (with_text events ns value t.span) q.names q.closed
text-parts done events [] c true q value t h k b e = subst (λ (r : Place). PartsOf (done ++ t ∷ []) events r.names r.closed) (some_inj (record { names = []; closed = c }) q k) (blank-parts done events c t h (b refl))
text-parts done events [] c false q value t h k b e = let no : ⊥ = cc in absurd no
text-parts done events (m ∷ ms) true blank q value t h k b e = absurd h
text-parts done events (m ∷ ms) false blank q value t h k b e =
    let found : Inner (done ++ t ∷ []) (with_event events (Chars value t.span)) = grow done events (with_event events (Chars value t.span)) t h (ap (fold with_event events) e) in
    subst (λ (r : Place). PartsOf (done ++ t ∷ []) (with_event events (Chars value t.span)) r.names r.closed) (some_inj (record { names = m ∷ ms; closed = false }) q k) found

-- a comment or an instruction
quiet-parts : (done : List Token) (events : List Event) (ns : List (List ℕ)) (c : Bool) (q : Place) (t : Token) → PartsOf done events ns c → ◌≡◌ {A = Option Place} (Some (record { names = ns; closed = c })) (Some q) → IsBlankKind t.kind → token_events t ≡ [] → PartsOf (done ++ t ∷ []) events q.names q.closed
quiet-parts done events [] c q t h k b e = subst (λ (r : Place). PartsOf (done ++ t ∷ []) events r.names r.closed) (some_inj (record { names = []; closed = c }) q k) (blank-parts done events c t h b)
quiet-parts done events (m ∷ ms) true q t h k b e = absurd h
quiet-parts done events (m ∷ ms) false q t h k b e =
    let found : Inner (done ++ t ∷ []) events = grow done events events t h (ap (fold with_event events) e) in
    subst (λ (r : Place). PartsOf (done ++ t ∷ []) events r.names r.closed) (some_inj (record { names = m ∷ ms; closed = false }) q k) found

end-parts : (done : List Token) (events : List Event) (ns : List (List ℕ)) (c : Bool) (q : Place) (name : List ℕ) (t : Token) → PartsOf done events ns c → end_step ns name ≡ Some q → token_events t ≡ End name t.span.end ∷ [] → PartsOf (done ++ t ∷ []) (events ++ End name t.span.end ∷ []) q.names q.closed
end-parts done events [] c q name t h k e = let no : ⊥ = cc in absurd no
end-parts done events (m ∷ ms) true q name t h k e = absurd h
end-parts done events (m ∷ ms) false q name t h k e =
    let more = events ++ End name t.span.end ∷ [] in
    let found : Inner (done ++ t ∷ []) more = grow done events more t h (ap (fold with_event events) e ∙ with-ended events name t.span.end) in
    subst (λ (r : Place). PartsOf (done ++ t ∷ []) more r.names r.closed) (end-gives m name ms q k) (settle (done ++ t ∷ []) more ms found)

kind-parts : (done : List Token) (events : List Event) (ns : List (List ℕ)) (c : Bool) (q : Place) (k : Kind) (span : Span) → PartsOf done events ns c → step below_limit (record { names = ns; closed = c }) k ≡ Some q → PartsOf (done ++ record { kind = k; span = span } ∷ []) (with_token events ns k span) q.names q.closed
kind-parts done events ns c q (kind.Start name attributes) span h r =
    let t : Token = record { kind = kind.Start name attributes; span = span } in
    let more = events ++ Begin name attributes span.start ∷ [] in
    let g = begin-gives c (not (nat_lt (length ns) 64)) (record { names = name ∷ ns; closed = false }) q r in
    let was : PartsOf done events ns false = subst (PartsOf done events ns) g.0 h in
    let found : PartsOf (done ++ t ∷ []) more (name ∷ ns) false = start-parts done events more ns t was (with-begin events name attributes span.start) in
    subst (λ (s : Place). PartsOf (done ++ t ∷ []) more s.names s.closed) g.1 found
kind-parts done events ns c q (kind.Empty name attributes) span h r =
    let t : Token = record { kind = kind.Empty name attributes; span = span } in
    let more = events ++ (Begin name attributes span.start ∷ End name span.end ∷ []) in
    let g = begin-gives c (not (nat_lt (length ns) 64)) (settled ns) q r in
    let was : PartsOf done events ns false = subst (PartsOf done events ns) g.0 h in
    let found : PartsOf (done ++ t ∷ []) more ns (is_nil ns) = settle (done ++ t ∷ []) more ns (start-parts done events more ns t was (with-both events name attributes span.start span.end)) in
    subst (λ (s : Place). PartsOf (done ++ t ∷ []) more s.names s.closed) g.1 found
kind-parts done events ns c q (kind.End name) span h r =
    end-parts done events ns c q name (record { kind = kind.End name; span = span }) h r refl
kind-parts done events ns c q (kind.Text value) span h r =
    text-parts done events ns c (list_all is_space value) q value (record { kind = kind.Text value; span = span }) h r (λ e. e) refl
kind-parts done events ns c q (kind.Reference value) span h r =
    text-parts done events ns c false q value (record { kind = kind.Reference value; span = span }) h r (λ e. let no : ⊥ = cc in absurd no) refl
kind-parts done events ns c q (kind.Cdata value) span h r =
    text-parts done events ns c false q value (record { kind = kind.Cdata value; span = span }) h r (λ e. let no : ⊥ = cc in absurd no) refl
kind-parts done events ns c q kind.Comment span h r =
    quiet-parts done events ns c q (record { kind = kind.Comment; span = span }) h r tt refl
kind-parts done events ns c q kind.Instruction span h r =
    quiet-parts done events ns c q (record { kind = kind.Instruction; span = span }) h r tt refl

-- one more token that may follow
pub parts-step : (done : List Token) (events : List Event) (p q : Place) (t : Token) → PartsOf done events p.names p.closed → step below_limit p t.kind ≡ Some q → PartsOf (done ++ t ∷ []) (with_token events p.names t.kind t.span) q.names q.closed
parts-step done events p q t h r = kind-parts done events p.names p.closed q t.kind t.span h r
