-- A quoted value, and an attribute's parts.
use Rattle.std.proofs.Common.{◌≡◌, ◌<◌, ℕ, Bool, true, false, List, ◌∷◌, ◌++◌, length, refl, ap, sym, subst, ◌∙◌, ◌⊎◌, inl, inr, cond, Some, nat_eq}
use Rattle.std.specs.declared.option.Option.{Option}
use Rattle.std.specs.List.{list_all}
use Rattle.std.proofs.lemmas.Bool.{eqb-true}
use Rattle.std.proofs.lemmas.List.{take_at, drop_at}
use Rattle.plcx_xml.specs.Character.{is_first, is_next, is_space, is_value, is_quote}
use Rattle.plcx_xml.specs.Grammar.{Stops, IsName, IsSpace}
use Rattle.plcx_xml.specs.Reading.{◌>>=◌, starts, run_at, name_at, byte_at, behind_space, quoted_by, quoted_at, value_at, Parts, named_at, parts_at}
use Rattle.plcx_xml.proofs.Runs.{run-sound, prefix_len-again, starts-sound, starts-again, starts-not, heads_append, either-true, space-apart, apart, stops_at_head, stops_behind_space, run-heads}
use Rattle.plcx_xml.proofs.Steps.{bind_some, guard_some, some_inj, byte-sound, byte-again, name-sound, name-again, space-again, heads-long, long-heads}

quote-cases : (q : ℕ) → is_quote q ≡ true → (q ≡ 34) ⊎ (q ≡ 39)
quote-cases q h = of (either-true (nat_eq q 34) (nat_eq q 39) h)
  where
    of : (nat_eq q 34 ≡ true) ⊎ (nat_eq q 39 ≡ true) → (q ≡ 34) ⊎ (q ≡ 39)
    of (inl e) = inl (eqb-true q 34 e)
    of (inr e) = inr (eqb-true q 39 e)

pair-0 : (a b c d : List ℕ) → ◌≡◌ {A = List ℕ × List ℕ} (a, b) (c, d) → a ≡ c
pair-0 a b c d e = ap (λ (p : List ℕ × List ℕ). p.0) e

pair-1 : (a b c d : List ℕ) → ◌≡◌ {A = List ℕ × List ℕ} (a, b) (c, d) → b ≡ d
pair-1 a b c d e = ap (λ (p : List ℕ × List ℕ). p.1) e

quoted_by-sound : (q : ℕ) (bytes v rest : List ℕ) → quoted_by q bytes ≡ Some (v, rest) → (list_all (is_value q) v ≡ true) × (bytes ≡ q ∷ (v ++ (q ∷ rest)))
unfolding quoted_by
quoted_by-sound q bytes v rest h =
    let f2 : List ℕ → List ℕ → Option (List ℕ × List ℕ) = λ inside rest. Some ((run_at (is_value q) inside).0, rest) in
    let f1 : List ℕ → Option (List ℕ × List ℕ) = λ inside. byte_at q (run_at (is_value q) inside).1 >>= f2 inside in
    let a = bind_some (byte_at q bytes) f1 (v, rest) h in
    let b = bind_some (byte_at q (run_at (is_value q) a.0).1) (f2 a.0) (v, rest) a.2 in
    let both = some_inj ((run_at (is_value q) a.0).0, b.0) (v, rest) b.2 in
    let value : (run_at (is_value q) a.0).0 ≡ v = pair-0 _ b.0 _ rest both in
    let after : b.0 ≡ rest = pair-1 (run_at (is_value q) a.0).0 _ v _ both in
    let run = run-sound (is_value q) a.0 in
    let behind : (run_at (is_value q) a.0).1 ≡ q ∷ rest = byte-sound q (run_at (is_value q) a.0).1 b.0 b.1 ∙ ap (λ (xs : List ℕ). q ∷ xs) after in
    let inside : a.0 ≡ v ++ (q ∷ rest) = run.2 ∙ (ap (λ (xs : List ℕ). xs ++ (run_at (is_value q) a.0).1) value ∙ ap (λ (xs : List ℕ). v ++ xs) behind) in
    (rw value at run.0, byte-sound q bytes a.0 a.1 ∙ ap (λ (xs : List ℕ). q ∷ xs) inside)

quoted_by-again : (q : ℕ) (v rest : List ℕ) → list_all (is_value q) v ≡ true → is_value q q ≡ false → quoted_by q (q ∷ (v ++ (q ∷ rest))) ≡ Some (v, rest)
unfolding quoted_by
quoted_by-again q v rest all h =
    rw (
      byte-again q (v ++ (q ∷ rest)),
      prefix_len-again (is_value q) v (q ∷ rest) all h,
      take_at v (q ∷ rest) (length v) refl,
      drop_at v (q ∷ rest) (length v) refl,
      byte-again q rest,
    ) refl

either-gives : {A : Type 0} (b : Bool) (x y : Option A) (z : A) → cond b x y ≡ Some z → (x ≡ Some z) ⊎ (y ≡ Some z)
either-gives true x y z h = inl h
either-gives false x y z h = inr h

pub record Quoted (bytes v rest : List ℕ) : Type 0 where
  pub quote : ℕ
  pub is_one : is_quote quote ≡ true
  pub all : list_all (is_value quote) v ≡ true
  pub spelled : bytes ≡ quote ∷ (v ++ (quote ∷ rest))

quoted-sound : (bytes v rest : List ℕ) → quoted_at bytes ≡ Some (v, rest) → Quoted bytes v rest
quoted-sound bytes v rest h = of (either-gives (starts (λ x. nat_eq x 34) bytes) (quoted_by 34 bytes) (quoted_by 39 bytes) (v, rest) h)
  where
    by : (q : ℕ) → is_quote q ≡ true → quoted_by q bytes ≡ Some (v, rest) → Quoted bytes v rest
    by q is_one e = let p = quoted_by-sound q bytes v rest e in record { quote = q; is_one = is_one; all = p.0; spelled = p.1 }

    of : (quoted_by 34 bytes ≡ Some (v, rest)) ⊎ (quoted_by 39 bytes ≡ Some (v, rest)) → Quoted bytes v rest
    of (inl e) = by 34 refl e
    of (inr e) = by 39 refl e

quoted-again : (q : ℕ) (v rest : List ℕ) → is_quote q ≡ true → list_all (is_value q) v ≡ true → quoted_at (q ∷ (v ++ (q ∷ rest))) ≡ Some (v, rest)
quoted-again q v rest h all = of (quote-cases q h)
  where
    of : (q ≡ 34) ⊎ (q ≡ 39) → quoted_at (q ∷ (v ++ (q ∷ rest))) ≡ Some (v, rest)
    of (inl e) =
        let all' : list_all (is_value 34) v ≡ true = rw e at all in
        rw (e, starts-again (λ x. nat_eq x 34) (34 ∷ (v ++ (34 ∷ rest))) refl) (quoted_by-again 34 v rest all' refl)
    of (inr e) =
        let all' : list_all (is_value 39) v ≡ true = rw e at all in
        rw (e, starts-not (λ x. nat_eq x 34) (39 ∷ (v ++ (39 ∷ rest))) refl) (quoted_by-again 39 v rest all' refl)

quote-space : (q : ℕ) → is_quote q ≡ true → is_space q ≡ false
quote-space q h = of (quote-cases q h)
  where
    of : (q ≡ 34) ⊎ (q ≡ 39) → is_space q ≡ false
    of (inl e) = rw e refl
    of (inr e) = rw e refl

pub record Valued (bytes v rest : List ℕ) : Type 0 where
  pub left : List ℕ
  pub right : List ℕ
  pub quote : ℕ
  pub spaced : IsSpace left × IsSpace right
  pub is_one : is_quote quote ≡ true
  pub all : list_all (is_value quote) v ≡ true
  pub spelled : bytes ≡ left ++ (61 ∷ (right ++ (quote ∷ (v ++ (quote ∷ rest)))))

value-sound : (bytes v rest : List ℕ) → value_at bytes ≡ Some (v, rest) → Valued bytes v rest
unfolding value_at
value-sound bytes v rest h =
    let f : List ℕ → Option (List ℕ × List ℕ) = λ right. quoted_at (behind_space right) in
    let a = bind_some (byte_at 61 (behind_space bytes)) f (v, rest) h in
    let q = quoted-sound (behind_space a.0) v rest a.2 in
    let left = run-sound is_space bytes in
    let right = run-sound is_space a.0 in
    let equals : behind_space bytes ≡ 61 ∷ a.0 = byte-sound 61 (behind_space bytes) a.0 a.1 in
    let behind : a.0 ≡ (run_at is_space a.0).0 ++ (q.quote ∷ (v ++ (q.quote ∷ rest))) = right.2 ∙ ap (λ (xs : List ℕ). (run_at is_space a.0).0 ++ xs) q.spelled in
    record {
      left = (run_at is_space bytes).0;
      right = (run_at is_space a.0).0;
      quote = q.quote;
      spaced = (left.0, right.0);
      is_one = q.is_one;
      all = q.all;
      spelled = left.2 ∙ ap (λ (xs : List ℕ). (run_at is_space bytes).0 ++ xs) (equals ∙ ap (λ (xs : List ℕ). 61 ∷ xs) behind);
    }

value-again : (left right v rest : List ℕ) (q : ℕ) → IsSpace left → IsSpace right → is_quote q ≡ true → list_all (is_value q) v ≡ true → value_at (left ++ (61 ∷ (right ++ (q ∷ (v ++ (q ∷ rest)))))) ≡ Some (v, rest)
unfolding value_at
value-again left right v rest q l r h all =
    rw (
      space-again left (61 ∷ (right ++ (q ∷ (v ++ (q ∷ rest))))) l refl,
      byte-again 61 (right ++ (q ∷ (v ++ (q ∷ rest)))),
      space-again right (q ∷ (v ++ (q ∷ rest))) r (quote-space q h),
    ) (quoted-again q v rest h all)

-- an attribute from its name on
pub record Named (own name v rest : List ℕ) : Type 0 where
  pub left : List ℕ
  pub right : List ℕ
  pub quote : ℕ
  pub named : IsName name
  pub spaced : IsSpace left × IsSpace right
  pub is_one : is_quote quote ≡ true
  pub all : list_all (is_value quote) v ≡ true
  pub spelled : own ≡ name ++ (left ++ (61 ∷ (right ++ (quote ∷ (v ++ (quote ∷ rest))))))

named-of : (own name after v rest : List ℕ) → IsName name → own ≡ name ++ after → Valued after v rest → Named own name v rest
named-of own name after v rest n e w = record {
  left = w.left;
  right = w.right;
  quote = w.quote;
  named = n;
  spaced = w.spaced;
  is_one = w.is_one;
  all = w.all;
  spelled = e ∙ ap (λ (xs : List ℕ). name ++ xs) w.spelled;
}

named-sound : (own : List ℕ) (p : Parts) → named_at own ≡ Some p → Named own p.name p.written p.rest × (p.own ≡ own)
unfolding named_at
named-sound own p h =
    let f2 : List ℕ → List ℕ × List ℕ → Option Parts = λ name value. Some (record { name = name; written = value.0; own = own; rest = value.1 }) in
    let f1 : List ℕ × List ℕ → Option Parts = λ name. value_at name.1 >>= f2 name.0 in
    let a = bind_some (name_at own) f1 p h in
    let b = bind_some (value_at a.0.1) (f2 a.0.0) p a.2 in
    let same : record { name = a.0.0; written = b.0.0; own = own; rest = b.0.1 } ≡ p = some_inj (record { name = a.0.0; written = b.0.0; own = own; rest = b.0.1 }) p b.2 in
    let n = name-sound own a.0.0 a.0.1 a.1 in
    let v = value-sound a.0.1 b.0.0 b.0.1 b.1 in
    let found : Named own a.0.0 b.0.0 b.0.1 = named-of own a.0.0 a.0.1 b.0.0 b.0.1 n.0 n.1 v in
    (subst (λ (r : Parts). Named own r.name r.written r.rest) same found, ap (λ (r : Parts). r.own) (sym same))

next-space : (x : ℕ) → is_space x ≡ true → is_next x ≡ false
next-space = space-apart is_next refl refl refl refl

named-again : (own name v rest : List ℕ) → Named own name v rest → named_at own ≡ Some (record { name = name; written = v; own = own; rest = rest })
unfolding named_at
named-again own name v rest n =
    let after = n.left ++ (61 ∷ (n.right ++ (n.quote ∷ (v ++ (n.quote ∷ rest))))) in
    let stops : Stops is_next after = stops_behind_space is_next next-space n.left (61 ∷ (n.right ++ (n.quote ∷ (v ++ (n.quote ∷ rest))))) n.spaced.0 refl in
    let read : name_at own ≡ Some (name, after) = rw n.spelled (name-again name after n.named stops) in
    rw (read, value-again n.left n.right v rest n.quote n.spaced.0 n.spaced.1 n.is_one n.all) refl

first-space : (x : ℕ) → is_first x ≡ true → is_space x ≡ false
first-space = apart is_space is_first (space-apart is_first refl refl refl refl)

pub parts-sound : (bytes : List ℕ) (p : Parts) → parts_at bytes ≡ Some p → (before : List ℕ) × (0 < length before) × IsSpace before × (bytes ≡ before ++ p.own) × Named p.own p.name p.written p.rest
parts-sound bytes p h =
    let found = guard_some (starts is_space bytes) (named_at (behind_space bytes)) p h in
    let run = run-sound is_space bytes in
    let some = run-heads is_space bytes (starts-sound is_space bytes found.0) in
    let n = named-sound (behind_space bytes) p found.1 in
    let before = (run_at is_space bytes).0 in
    (before, heads-long is_space before some, run.0, run.2 ∙ ap (λ (xs : List ℕ). before ++ xs) (sym n.1), subst (λ (xs : List ℕ). Named xs p.name p.written p.rest) (sym n.1) n.0)

named-stops : (own name v rest : List ℕ) → Named own name v rest → Stops is_space own
named-stops own name v rest n =
    let after = n.left ++ (61 ∷ (n.right ++ (n.quote ∷ (v ++ (n.quote ∷ rest))))) in
    subst (Stops is_space) (sym n.spelled) (stops_at_head is_first is_space (name ++ after) first-space (heads_append is_first name after n.named.0))

pub parts-again : (before own name v rest : List ℕ) → 0 < length before → IsSpace before → Named own name v rest → parts_at (before ++ own) ≡ Some (record { name = name; written = v; own = own; rest = rest })
parts-again before own name v rest some blank n =
    rw (
      starts-again is_space (before ++ own) (heads_append is_space before own (long-heads is_space before some blank)),
      space-again before own blank (named-stops own name v rest n),
    ) (named-again own name v rest n)
