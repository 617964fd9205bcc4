-- The search for the types of groups: each fact is found once, and nothing is left out.
use Rattle.std.proofs.Common.{◌≡◌, ℕ, zero, suc, ◌+◌, ◌*◌, ◌<◌, ◌≤◌, ◌⊎◌, ◌++◌, inl, inr, Bool, true, false, cond, List, [], ◌∷◌, length, get_or, set, replicate, refl, sym, ◌∙◌, ap, subst, arith, length-set, get_or-set_same, get_or-set_other}
use Rattle.std.specs.Bool.{Decides}
use Rattle.std.specs.List.{Contains}
use Rattle.std.proofs.lemmas.Bool.{cases_lt, cases_eq}
use Rattle.std.proofs.lemmas.List.{length_push, get_or_push, get_or_append_left, get_or_default, get_or-replicate, length-replicate, set-get_or}
use Rattle.std.proofs.lemmas.List.Elements.{Contains-push, Contains-append_left, Contains-get_or}
use Rattle.plcx_types.specs.declared.ty.Ty.{Ty}
use Rattle.plcx_types.specs.declared.ty.Ty.TheVariants as ty
use Rattle.plcx_types.specs.TypeName.{position_of_type}
use Rattle.plcx_typing.specs.declared.flow.Fact.{Fact}
use Rattle.plcx_typing.specs.Closure.{fact, no_fact, mark_place, is_marked, marked, next_of, unmarked, Comes, Seed, Step, IsFlow, IsFound, found_at, IsPassed, IsSearch, KeepsMarks, Extends, AreMarked}

pub position_below : (t : Ty) → position_of_type t < 14
position_below ty.Bool = omega arith
position_below ty.Byte = omega arith
position_below ty.Word = omega arith
position_below ty.Dword = omega arith
position_below ty.Lword = omega arith
position_below ty.Sint = omega arith
position_below ty.Int = omega arith
position_below ty.Dint = omega arith
position_below ty.Lint = omega arith
position_below ty.Usint = omega arith
position_below ty.Uint = omega arith
position_below ty.Udint = omega arith
position_below ty.Ulint = omega arith
position_below ty.Time = omega arith

abbrev type_at : ℕ → Ty
type_at zero = ty.Bool
type_at (suc zero) = ty.Byte
type_at (suc (suc zero)) = ty.Word
type_at (suc (suc (suc zero))) = ty.Dword
type_at (suc (suc (suc (suc zero)))) = ty.Lword
type_at (suc (suc (suc (suc (suc zero))))) = ty.Sint
type_at (suc (suc (suc (suc (suc (suc zero)))))) = ty.Int
type_at (suc (suc (suc (suc (suc (suc (suc zero))))))) = ty.Dint
type_at (suc (suc (suc (suc (suc (suc (suc (suc zero)))))))) = ty.Lint
type_at (suc (suc (suc (suc (suc (suc (suc (suc (suc zero))))))))) = ty.Usint
type_at (suc (suc (suc (suc (suc (suc (suc (suc (suc (suc zero)))))))))) = ty.Uint
type_at (suc (suc (suc (suc (suc (suc (suc (suc (suc (suc (suc zero))))))))))) = ty.Udint
type_at (suc (suc (suc (suc (suc (suc (suc (suc (suc (suc (suc (suc zero)))))))))))) = ty.Ulint
type_at (suc (suc (suc (suc (suc (suc (suc (suc (suc (suc (suc (suc (suc n))))))))))))) = ty.Time

at_again : (t : Ty) → type_at (position_of_type t) ≡ t
at_again ty.Bool = refl
at_again ty.Byte = refl
at_again ty.Word = refl
at_again ty.Dword = refl
at_again ty.Lword = refl
at_again ty.Sint = refl
at_again ty.Int = refl
at_again ty.Dint = refl
at_again ty.Lint = refl
at_again ty.Usint = refl
at_again ty.Uint = refl
at_again ty.Udint = refl
at_again ty.Ulint = refl
at_again ty.Time = refl

pub same_position : (t u : Ty) → position_of_type t ≡ position_of_type u → t ≡ u
same_position t u e = sym (at_again t) ∙ (ap type_at e ∙ at_again u)

-- a place is that of one element and one type
same_element : (e f p q : ℕ) → p < 14 → q < 14 → 14 * e + p ≡ 14 * f + q → (e ≡ f) × (p ≡ q)
same_element e f p q hp hq same = (omega arith, omega arith)

pub place_within : (n e : ℕ) (t : Ty) → e < n → mark_place e t < 14 * n
place_within n e t h = let below = position_below t in omega arith

pub marked_now : (marks : List Bool) (n : ℕ) (f : Fact) → length marks ≡ 14 * n → f.element < n → is_marked (marked marks f) f.element f.ty ≡ true
marked_now marks n f count h = let within = place_within n f.element f.ty h in get_or-set_same marks (mark_place f.element f.ty) true false (omega arith)

-- a mark is that of the fact, or was there before
pub marked_before : (marks : List Bool) (f : Fact) (e : ℕ) (t : Ty) → is_marked (marked marks f) e t ≡ true → (f ≡ fact e t) ⊎ (is_marked marks e t ≡ true)
marked_before marks f e t h = elim (cases_eq (mark_place e t) (mark_place f.element f.ty)) [
  | inl same ↦
      let both = same_element e f.element (position_of_type t) (position_of_type f.ty) (position_below t) (position_below f.ty) same in
      inl (ap (λ x. fact x f.ty) (sym both.0) ∙ ap (fact e) (sym (same_position t f.ty both.1)))
  | inr other ↦ inr (sym (get_or-set_other marks (mark_place f.element f.ty) (mark_place e t) true false other) ∙ h)
]

pub marks_kept : (marks : List Bool) (n : ℕ) (f : Fact) → length marks ≡ 14 * n → f.element < n → KeepsMarks marks (marked marks f)
marks_kept marks n f count within e t h = elim (cases_eq (mark_place e t) (mark_place f.element f.ty)) [
  | inl same ↦ ap (λ p. get_or (marked marks f) p false) same ∙ marked_now marks n f count within
  | inr other ↦ get_or-set_other marks (mark_place f.element f.ty) (mark_place e t) true false other ∙ h
]

fewer_left : (marks : List Bool) (p : ℕ) → p < length marks → get_or marks p false ≡ false → unmarked (set marks p true) + 1 ≡ unmarked marks
fewer_left [] p h was = absurd (omega arith)
fewer_left (true ∷ marks) zero h was = absurd (let e : true ≡ false = was in cc)
fewer_left (false ∷ marks) zero h was = omega arith
fewer_left (true ∷ marks) (suc p) h was = fewer_left marks p (omega arith) was
fewer_left (false ∷ marks) (suc p) h was = omega (arith, fewer_left marks p (omega arith) was)

none_marked : (n : ℕ) → unmarked (replicate n false) ≡ n
none_marked zero = refl
none_marked (suc n) = omega (arith, none_marked n)

-- ONE FACT MORE

module _ (seeds : List Fact) (next : List (List ℕ)) (n : ℕ) where
  found_kept : (marks marks' : List Bool) (f : Fact) → KeepsMarks marks marks' → IsFound seeds next n marks f → IsFound seeds next n marks' f
  found_kept marks marks' f kept h = record { element = h.element; marked = kept f.element f.ty h.marked; comes = h.comes }

  pub start : (marks : List Bool) → marks ≡ replicate (14 * n) false → IsSearch seeds next n marks [] 0
  start marks is = record {
    count = ap length is ∙ length-replicate (14 * n) false;
    each = λ k h. absurd (omega arith);
    whole = λ e t h m. let none = get_or-replicate (14 * n) (mark_place e t) false false (place_within n e t h) in let no : false ≡ true = sym none ∙ (ap (λ xs. is_marked xs e t) (sym is) ∙ m) in absurd (cc);
    left = omega (arith, ap unmarked is, none_marked (14 * n));
    passed = λ k h. absurd (omega arith);
    most = omega arith;
  }

  pub more : (marks : List Bool) (found : List Fact) (done : ℕ) (f : Fact) → IsSearch seeds next n marks found done → f.element < n → Comes seeds next f.element f.ty → is_marked marks f.element f.ty ≡ false → IsSearch seeds next n (marked marks f) (found ++ f ∷ []) done
  more marks found done f s within comes unfound =
      let kept = marks_kept marks n f s.count within in
      let now = marked_now marks n f s.count within in
      let one = length_push found f in
      record {
        count = length-set marks (mark_place f.element f.ty) true ∙ s.count;
        each = λ k h. elim (cases_lt k (length found)) [
          | inl low ↦ subst (IsFound seeds next n (marked marks f)) (sym (get_or_append_left found (f ∷ []) no_fact k low)) (found_kept marks (marked marks f) (found_at found k) kept (s.each k low))
          | inr high ↦ let last : length found ≡ k = omega arith in subst (IsFound seeds next n (marked marks f)) (sym (get_or_push found f no_fact k last)) (record { element = within; marked = now; comes = comes })
        ];
        whole = λ e t h m. elim (marked_before marks f e t m) [
          | inl is ↦ subst (Contains (found ++ f ∷ [])) is (Contains-push found f)
          | inr old ↦ Contains-append_left found (f ∷ []) (fact e t) (s.whole e t h old)
        ];
        left = let place = place_within n f.element f.ty within in let fewer = fewer_left marks (mark_place f.element f.ty) (omega (arith, s.count)) unfound in omega (arith, s.left);
        passed = λ k h. let low : k < length found = omega (arith, s.most) in subst (IsPassed next (marked marks f)) (sym (get_or_append_left found (f ∷ []) no_fact k low)) (λ v there. kept v (found_at found k).ty (s.passed k h v there));
        most = omega (arith, s.most);
      }

  noted_by : (b : Bool) (marks : List Bool) (found : List Fact) (done : ℕ) (f : Fact) → is_marked marks f.element f.ty ≡ b → IsSearch seeds next n marks found done → f.element < n → Comes seeds next f.element f.ty
      → IsSearch seeds next n (marked marks f) (cond b found (found ++ f ∷ [])) done × Extends found (cond b found (found ++ f ∷ []))
  noted_by true marks found done f is s within comes =
      let same : marked marks f ≡ marks = ap (set marks (mark_place f.element f.ty)) (sym is) ∙ set-get_or marks (mark_place f.element f.ty) false in
      (subst (λ m. IsSearch seeds next n m found done) (sym same) s, record { longer = omega arith; same = λ k h. refl })
  noted_by false marks found done f is s within comes =
      (more marks found done f s within comes is, record { longer = omega (arith, length_push found f); same = λ k h. get_or_append_left found (f ∷ []) no_fact k h })

  -- a fact that comes is noted
  pub noted : (marks marks' : List Bool) (found found' : List Fact) (done : ℕ) (f : Fact) → marks' ≡ marked marks f → found' ≡ cond (is_marked marks f.element f.ty) found (found ++ f ∷ [])
      → IsSearch seeds next n marks found done → f.element < n → Comes seeds next f.element f.ty → IsSearch seeds next n marks' found' done × Extends found found'
  noted marks marks' found found' done f is is' s within comes =
      subst (λ m. IsSearch seeds next n m found' done × Extends found found') (sym is) (subst (λ x. IsSearch seeds next n (marked marks f) x done × Extends found x) (sym is') (noted_by (is_marked marks f.element f.ty) marks found done f refl s within comes))

  -- what follows from the next fact is marked
  pub passed_more : (marks : List Bool) (found : List Fact) (done : ℕ) → IsSearch seeds next n marks found done → done < length found → IsPassed next marks (found_at found done) → IsSearch seeds next n marks found (done + 1)
  passed_more marks found done s h here = record {
    count = s.count;
    each = s.each;
    whole = s.whole;
    left = s.left;
    passed = λ k l. elim (cases_lt k done) [
      | inl low ↦ s.passed k low
      | inr high ↦ let at : done ≡ k = omega arith in subst (λ i. IsPassed next marks (found_at found i)) at here
    ];
    most = omega arith;
  }

  -- the end: a fact is marked just where it comes
  all_marked : (marks : List Bool) (found : List Fact) (done : ℕ) → IsFlow n seeds next → IsSearch seeds next n marks found done → length found ≤ done → AreMarked marks seeds → (e : ℕ) (t : Ty) → Comes seeds next e t → (e < n) × (is_marked marks e t ≡ true)
  all_marked marks found done flow s over seeded e t (Seed there) = (flow.seeded (fact e t) there, seeded (fact e t) there)
  all_marked marks found done flow s over seeded e t (Step {u} before there) =
      let was = all_marked marks found done flow s over seeded u t before in
      let listed = s.whole u t was.0 was.1 in
      let at : found_at found listed.0 ≡ fact u t = get_or_default found listed.0 no_fact (fact u t) listed.1 ∙ listed.2 in
      let passed : IsPassed next marks (fact u t) = subst (IsPassed next marks) at (s.passed listed.0 (omega (arith, listed.1))) in
      (flow.within u e there, passed e there)

  pub decided : (marks : List Bool) (found : List Fact) (done : ℕ) → IsFlow n seeds next → IsSearch seeds next n marks found done → length found ≤ done → AreMarked marks seeds → (e : ℕ) (t : Ty) → e < n → Decides (is_marked marks e t) (Comes seeds next e t)
  decided marks found done flow s over seeded e t h = (
    (λ m.
        let listed = s.whole e t h m in
        let at : found_at found listed.0 ≡ fact e t = get_or_default found listed.0 no_fact (fact e t) listed.1 ∙ listed.2 in
        subst (λ (f : Fact). Comes seeds next f.element f.ty) at (s.each listed.0 listed.1).comes),
    (λ comes. (all_marked marks found done flow s over seeded e t comes).1),
  )

  -- what follows from the next fact comes
  pub follows : (marks : List Bool) (found : List Fact) (done : ℕ) (f : Fact) (items : List ℕ) → IsFlow n seeds next → IsSearch seeds next n marks found done → done < length found → f ≡ found_at found done
      → items ≡ next_of next f.element → (k : ℕ) → k < length items → (get_or items k 0 < n) × Comes seeds next (get_or items k 0) f.ty
  follows marks found done f items flow s more at is k h =
      let there : Contains (next_of next f.element) (get_or items k 0) = subst (λ xs. Contains xs (get_or items k 0)) is (Contains-get_or items k 0 h) in
      let comes : Comes seeds next f.element f.ty = subst (λ (x : Fact). Comes seeds next x.element x.ty) (sym at) (s.each done more).comes in
      (flow.within f.element (get_or items k 0) there, Step comes there)
