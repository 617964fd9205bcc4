-- How tokens run behind each other, and how the events that they are do.
use Rattle.std.proofs.Common.{◌≡◌, ℕ, Bool, true, false, ◌||◌, List, [], ◌∷◌, ◌++◌, length, refl, ap, sym, subst, ◌∙◌, ◌⊎◌, inl, inr, cond, not, None, Some, append_assoc, append-nil, nat_lt}
use Rattle.std.specs.Prelude.{fold}
use Rattle.std.specs.declared.option.Option.{Option}
use Rattle.std.specs.List.{flat_map, list_all}
use Rattle.std.specs.Str.{bytes_eq}
use Rattle.std.proofs.lemmas.Slice.Eq.{bytes_eq-Decides}
use Rattle.plcx_types.specs.declared.span.Span.{Span}
use Rattle.plcx_xml.specs.Character.{is_space}
use Rattle.plcx_xml.specs.Reading.{◌>>=◌}
use Rattle.plcx_xml.specs.Events.{Event, Begin, End, Chars, kind_events, token_events, with_event, after_one, joined}
use Rattle.plcx_xml.specs.Nesting.{Place, settled, begin_step, end_step, text_step, step, run, any_depth, below_limit}
use Rattle.plcx_xml.specs.declared.token.Token.{Token}
use Rattle.plcx_xml.specs.declared.token.Kind.{Kind}
use Rattle.plcx_xml.specs.declared.token.Kind.TheVariants as kind
use Rattle.plcx_xml.proofs.Steps.{bind_some, some_inj}
use Rattle.plcx_xml.proofs.TreeRuns.{event_step, chars_step, run_events, run-append, bind-assoc, bind-cong}

-- tokens one behind another
pub run-split : (allows : ℕ → Bool) (xs ys : List Token) (p : Place) → run allows (xs ++ ys) p ≡ (run allows xs p >>= run allows ys)
run-split allows [] ys p = refl
run-split allows (x ∷ xs) ys p = bind-cong (step allows p x.kind) (run allows (xs ++ ys)) (λ q. run allows xs q >>= run allows ys) (run-split allows xs ys) ∙ sym (bind-assoc (step allows p x.kind) (run allows xs) (run allows ys))

begin-any : (p next q : Place) (c b : Bool) → ◌≡◌ {A = Option Place} (cond (c || not b) None (Some next)) (Some q) → ◌≡◌ {A = Option Place} (cond (c || not true) None (Some next)) (Some q)
begin-any p next q true b h = let no : ⊥ = cc in absurd no
begin-any p next q false true h = h
begin-any p next q false false h = let no : ⊥ = cc in absurd no

-- what the limit lets through nests
pub step-any : (p q : Place) (k : Kind) → step below_limit p k ≡ Some q → step any_depth p k ≡ Some q
step-any p q (kind.Start name attributes) h = begin-any p (record { names = name ∷ p.names; closed = false }) q p.closed (nat_lt (length p.names) 64) h
step-any p q (kind.Empty name attributes) h = begin-any p (settled p.names) q p.closed (nat_lt (length p.names) 64) h
step-any p q (kind.End name) h = h
step-any p q (kind.Text value) h = h
step-any p q (kind.Reference value) h = h
step-any p q (kind.Cdata value) h = h
step-any p q kind.Comment h = h
step-any p q kind.Instruction h = h

pub run-any : (ts : List Token) (p q : Place) → run below_limit ts p ≡ Some q → run any_depth ts p ≡ Some q
run-any [] p q h = h
run-any (t ∷ ts) p q h =
    let b = bind_some (step below_limit p t.kind) (run below_limit ts) q h in
    ap (λ (o : Option Place). o >>= run any_depth ts) (step-any p b.0 t.kind b.1) ∙ run-any ts b.0 q b.2

bind-id : (lets : Bool) (o : Option Place) → (o >>= run_events lets []) ≡ o
bind-id lets None = refl
bind-id lets (Some p) = refl

begin-same : (p next q : Place) → begin_step below_limit p next ≡ Some q → next ≡ q
begin-same p next q h = of (p.closed || not (nat_lt (length p.names) 64)) h
  where
    of : (b : Bool) → ◌≡◌ {A = Option Place} (cond b None (Some next)) (Some q) → next ≡ q
    of true k = let no : ⊥ = cc in absurd no
    of false k = some_inj next q k

begin-other : (p next other q : Place) → begin_step below_limit p next ≡ Some q → begin_step below_limit p other ≡ Some other
begin-other p next other q h = of (p.closed || not (nat_lt (length p.names) 64)) h
  where
    of : (b : Bool) → ◌≡◌ {A = Option Place} (cond b None (Some next)) (Some q) → ◌≡◌ {A = Option Place} (cond b None (Some other)) (Some other)
    of true k = let no : ⊥ = cc in absurd no
    of false k = refl

same-name : (name : List ℕ) → bytes_eq name name ≡ true
same-name name = (bytes_eq-Decides name name).1 refl

strict-text : (p q : Place) (names : List (List ℕ)) (blank : Bool) → chars_step false p names ≡ Some q → text_step p names blank ≡ Some q
strict-text p q [] blank h = let no : ⊥ = cc in absurd no
strict-text p q (m ∷ ms) blank h = h

-- where events let no text stand alone, a token may stand where its events may
strict-kind : (p q : Place) (k : Kind) (span : Span) → run_events false (kind_events k span) p ≡ Some q → step below_limit p k ≡ Some q
strict-kind p q (kind.Start name attributes) span h = sym (bind-id false (event_step false (Begin name attributes span.start) p)) ∙ h
strict-kind p q (kind.Empty name attributes) span h =
    let inside : Place = record { names = name ∷ p.names; closed = false } in
    let b = bind_some (begin_step below_limit p inside) (run_events false (End name span.end ∷ [])) q h in
    let at : end_step b.0.names name ≡ Some q = sym (bind-id false (end_step b.0.names name)) ∙ b.2 in
    let own : end_step (name ∷ p.names) name ≡ Some q = subst (λ (r : Place). end_step r.names name ≡ Some q) (sym (begin-same p inside b.0 b.1)) at in
    let ends : end_step (name ∷ p.names) name ≡ Some (settled p.names) = rw (same-name name) refl in
    begin-other p inside (settled p.names) b.0 b.1 ∙ (sym ends ∙ own)
strict-kind p q (kind.End name) span h = sym (bind-id false (end_step p.names name)) ∙ h
strict-kind p q (kind.Text value) span h = strict-text p q p.names (list_all is_space value) (sym (bind-id false (chars_step false p p.names)) ∙ h)
strict-kind p q (kind.Reference value) span h = strict-text p q p.names false (sym (bind-id false (chars_step false p p.names)) ∙ h)
strict-kind p q (kind.Cdata value) span h = strict-text p q p.names false (sym (bind-id false (chars_step false p p.names)) ∙ h)
strict-kind p q kind.Comment span h = h
strict-kind p q kind.Instruction span h = h

pub strict-runs : (ts : List Token) (p q : Place) → run_events false (flat_map token_events ts) p ≡ Some q → run below_limit ts p ≡ Some q
strict-runs [] p q h = h
strict-runs (t ∷ ts) p q h =
    let b = bind_some (run_events false (token_events t) p) (run_events false (flat_map token_events ts)) q (sym (run-append false (token_events t) (flat_map token_events ts) p) ∙ h) in
    ap (λ (o : Option Place). o >>= run below_limit ts) (strict-kind p b.0 t.kind t.span b.1) ∙ strict-runs ts b.0 q b.2

-- where events let texts stand alone, a token that may stand goes where its events do
abbrev Lenient : Option Place → Option Place → Type 0
Lenient s o = (s ≡ None) ⊎ (s ≡ o)

lenient-text : (p : Place) (names : List (List ℕ)) (blank : Bool) → Lenient (text_step p names blank) (chars_step true p names)
lenient-text p [] true = inr refl
lenient-text p [] false = inl refl
lenient-text p (m ∷ ms) blank = inr refl

lenient-id : (s o : Option Place) → Lenient s o → Lenient s (o >>= run_events true [])
lenient-id s o (inl h) = inl h
lenient-id s o (inr h) = inr (h ∙ sym (bind-id true o))

lenient-kind : (p : Place) (k : Kind) (span : Span) → Lenient (step below_limit p k) (run_events true (kind_events k span) p)
lenient-kind p (kind.Start name attributes) span = lenient-id (step below_limit p (kind.Start name attributes)) (step below_limit p (kind.Start name attributes)) (inr refl)
lenient-kind p (kind.Empty name attributes) span = of (p.closed || not (nat_lt (length p.names) 64))
  where
    inside : Place
    inside = record { names = name ∷ p.names; closed = false }

    of : (b : Bool) → Lenient (cond b None (Some (settled p.names))) (cond b None (Some inside) >>= run_events true (End name span.end ∷ []))
    of true = inl refl
    of false = inr (let ends : end_step (name ∷ p.names) name ≡ Some (settled p.names) = rw (same-name name) refl in sym (bind-id true (end_step (name ∷ p.names) name) ∙ ends))
lenient-kind p (kind.End name) span = lenient-id (end_step p.names name) (end_step p.names name) (inr refl)
lenient-kind p (kind.Text value) span = lenient-id (text_step p p.names (list_all is_space value)) (chars_step true p p.names) (lenient-text p p.names (list_all is_space value))
lenient-kind p (kind.Reference value) span = lenient-id (text_step p p.names false) (chars_step true p p.names) (lenient-text p p.names false)
lenient-kind p (kind.Cdata value) span = lenient-id (text_step p p.names false) (chars_step true p p.names) (lenient-text p p.names false)
lenient-kind p kind.Comment span = inr refl
lenient-kind p kind.Instruction span = inr refl

lenient-next : (s o : Option Place) (ts : List Token) → Lenient s o → ((q : Place) → run_events true (flat_map token_events ts) q ≡ None → run below_limit ts q ≡ None) → (o >>= run_events true (flat_map token_events ts)) ≡ None → (s >>= run below_limit ts) ≡ None
lenient-next s o ts (inl e) ih h = ap (λ (x : Option Place). x >>= run below_limit ts) e
lenient-next None o ts (inr e) ih h = refl
lenient-next (Some q) o ts (inr e) ih h = ih q (ap (λ (x : Option Place). x >>= run_events true (flat_map token_events ts)) e ∙ h)

pub lenient-runs : (ts : List Token) (p : Place) → run_events true (flat_map token_events ts) p ≡ None → run below_limit ts p ≡ None
lenient-runs [] p h = let no : ⊥ = cc in absurd no
lenient-runs (t ∷ ts) p h =
    lenient-next (step below_limit p t.kind) (run_events true (token_events t) p) ts (lenient-kind p t.kind t.span) (λ q k. lenient-runs ts q k) (sym (run-append true (token_events t) (flat_map token_events ts) p) ∙ h)

chars-twice : (lets : Bool) (p : Place) (names : List (List ℕ)) → p.names ≡ names → (chars_step lets p names >>= run_events lets []) ≡ (chars_step lets p names >>= λ q. chars_step lets q q.names >>= run_events lets [])
chars-twice true p [] e = rw e refl
chars-twice false p [] e = refl
chars-twice lets p (m ∷ ms) e = rw e refl

run-after : (lets : Bool) (e f : Event) (p : Place) → run_events lets (after_one e f) p ≡ run_events lets (e ∷ f ∷ []) p
run-after lets (Begin name attributes start) f p = refl
run-after lets (End name end) f p = refl
run-after lets (Chars value span) (Begin name attributes start) p = refl
run-after lets (Chars value span) (End name end) p = refl
run-after lets (Chars value span) (Chars more over) p = chars-twice lets p p.names refl

run-with : (lets : Bool) (es : List Event) (f : Event) (p : Place) → run_events lets (with_event es f) p ≡ run_events lets (es ++ f ∷ []) p
run-with lets [] f p = refl
run-with lets (e ∷ []) f p = run-after lets e f p
run-with lets (e ∷ (g ∷ es)) f p = bind-cong (event_step lets e p) (run_events lets (with_event (g ∷ es) f)) (run_events lets ((g ∷ es) ++ f ∷ [])) (λ q. run-with lets (g ∷ es) f q)

run-fold : (lets : Bool) (fs es : List Event) (p : Place) → run_events lets (fold with_event es fs) p ≡ run_events lets (es ++ fs) p
run-fold lets [] es p = ap (λ (xs : List Event). run_events lets xs p) (sym (append-nil es))
run-fold lets (f ∷ fs) es p =
    run-fold lets fs (with_event es f) p
    ∙ (run-append lets (with_event es f) fs p
    ∙ (ap (λ (o : Option Place). o >>= run_events lets fs) (run-with lets es f p)
    ∙ (sym (run-append lets (es ++ f ∷ []) fs p) ∙ ap (λ (xs : List Event). run_events lets xs p) (append_assoc es (f ∷ []) fs))))

-- joining texts changes nothing there
pub run-joined : (lets : Bool) (es : List Event) (p : Place) → run_events lets (joined es) p ≡ run_events lets es p
run-joined lets es p = run-fold lets es [] p
