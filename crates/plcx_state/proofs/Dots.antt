-- Names with points between them: which names they are, and that no comma is among them.
use Rattle.std.proofs.Common.{◌≡◌, ◌<◌, ◌+◌, ◌∷◌, ◌++◌, ◌∙◌, ℕ, Bool, true, false, true≢false, List, [], cond, map, refl, sym, ap, ap₂, subst, arith, rules}
use Rattle.std.specs.Prelude.{◌==◌, ◌||◌, nat_lt, codes}
use Rattle.std.specs.Char.{to_ascii_lowercase}
use Rattle.std.specs.List.{flat_map, list_any, list_all}
use Rattle.std.proofs.lemmas.Bool.{ne_eqb, ltb-false, and_parts, or_parts}
use Rattle.plcx_types.specs.Name.{in_lower_case, is_next_byte, is_identifier}
use Rattle.plcx_types.specs.Lists.{Each}
use Rattle.plcx_meaning.proofs.Names.{folded_append}
use Rattle.plcx_state.specs.Layouts.{dotted}
use Rattle.plcx_state.specs.Tables.{IsPlain}

lower_other : (b s : ℕ) → is_next_byte b ≡ true → is_next_byte s ≡ false → s < 97 → (to_ascii_lowercase b == s) ≡ false
lower_other b s next apart lt = ne_eqb (to_ascii_lowercase b) s (λ e. by (nat_lt b 65) refl (nat_lt b 91) e)
  where
    clash : b ≡ s → ⊥
    clash e = true≢false (sym next ∙ ap is_next_byte e ∙ apart)

    by : (p : Bool) → nat_lt b 65 ≡ p → (q : Bool) → cond p b (cond q (b + 32) b) ≡ s → ⊥
    by true low q e = clash e
    by false low true e = let h = ltb-false b 65 low in omega arith
    by false low false e = clash e

-- the byte is nowhere in the text
abbrev pub Lacks : ℕ → List ℕ → Type 0
Lacks s text = list_any (λ b. b == s) text ≡ false

pub lacks_append : (s : ℕ) (xs ys : List ℕ) → Lacks s xs → Lacks s ys → Lacks s (xs ++ ys)
lacks_append s [] ys h k = k
lacks_append s (x ∷ xs) ys h k = let parts = or_parts (x == s) (list_any (λ b. b == s) xs) h in ap₂ (λ a b. a || b) parts.0 (lacks_append s xs ys parts.1 k)

plain_lacks : (s : ℕ) (name : List ℕ) → is_next_byte s ≡ false → s < 97 → IsPlain name → Lacks s (in_lower_case name)
plain_lacks s [] apart lt h = refl
plain_lacks s (b ∷ name) apart lt h =
    let parts = and_parts (is_next_byte b) (list_all is_next_byte name) h in
    ap₂ (λ a c. a || c) (lower_other b s parts.0 apart lt) (plain_lacks s name apart lt parts.1)

-- names behind points
abbrev behind_points : List (List ℕ) → List ℕ
behind_points names = flat_map (λ other. codes "." ++ other) names

lowered_points : (names : List (List ℕ)) → in_lower_case (behind_points names) ≡ behind_points (map in_lower_case names)
lowered_points [] = refl
lowered_points (x ∷ names) = ap (λ t. 46 ∷ t) (folded_append x (behind_points names) ∙ ap (λ t. in_lower_case x ++ t) (lowered_points names))

-- in lower case they are the names in lower case
lowered_dotted : (names : List (List ℕ)) → in_lower_case (dotted names) ≡ dotted (map in_lower_case names)
lowered_dotted [] = refl
lowered_dotted (x ∷ names) = folded_append x (behind_points names) ∙ ap (λ t. in_lower_case x ++ t) (lowered_points names)

points_lack : (names : List (List ℕ)) → Each IsPlain names → Lacks 44 (in_lower_case (behind_points names))
points_lack [] h = refl
points_lack (x ∷ names) h =
    subst (Lacks 44) (sym (folded_append x (behind_points names))) (lacks_append 44 (in_lower_case x) (in_lower_case (behind_points names)) (plain_lacks 44 x refl (omega arith) h.0) (points_lack names h.1))

-- no comma is among names
pub dotted_lacks : (names : List (List ℕ)) → Each IsPlain names → Lacks 44 (in_lower_case (dotted names))
dotted_lacks [] h = refl
dotted_lacks (x ∷ names) h =
    subst (Lacks 44) (sym (folded_append x (behind_points names))) (lacks_append 44 (in_lower_case x) (in_lower_case (behind_points names)) (plain_lacks 44 x refl (omega arith) h.0) (points_lack names h.1))

-- nor in another spelling of them
pub spelled_lacks : (text : List ℕ) → Lacks 44 (in_lower_case text) → Lacks 44 text
spelled_lacks [] h = refl
spelled_lacks (b ∷ text) h =
    let parts = or_parts (to_ascii_lowercase b == 44) (list_any (λ c. c == 44) (in_lower_case text)) h in
    ap₂ (λ a c. a || c) (ne_eqb b 44 (λ e. true≢false (ap (λ c. to_ascii_lowercase c == 44) (sym e) ∙ parts.0))) (spelled_lacks text parts.1)

no_point_first : (b : ℕ) (x : List ℕ) (rest : List ℕ) → Lacks 46 (b ∷ x) → (ys : List (List ℕ)) → behind_points ys ≡ b ∷ rest → ⊥
no_point_first b x rest h [] e = cc
no_point_first b x rest h (y ∷ ys) e = let is : 46 ≡ b = cc in true≢false (ap (λ c. c == 46) is ∙ (or_parts (b == 46) (list_any (λ c. c == 46) x) h).0)

-- a first name ends at the first point
first_name : (x y : List ℕ) (xs ys : List (List ℕ)) → Lacks 46 x → Lacks 46 y → x ++ behind_points xs ≡ y ++ behind_points ys → (x ≡ y) × (behind_points xs ≡ behind_points ys)
first_name [] [] xs ys hx hy e = (refl, e)
first_name [] (b ∷ y) xs ys hx hy e = absurd (no_point_first b y (y ++ behind_points ys) hy xs e)
first_name (b ∷ x) [] xs ys hx hy e = absurd (no_point_first b x (x ++ behind_points xs) hx ys (sym e))
first_name (b ∷ x) (c ∷ y) xs ys hx hy e =
    let head : b ≡ c = cc in
    let rest = first_name x y xs ys (or_parts (b == 46) (list_any (λ d. d == 46) x) hx).1 (or_parts (c == 46) (list_any (λ d. d == 46) y) hy).1 (cc) in
    (ap₂ (λ (d : ℕ) (t : List ℕ). d ∷ t) head rest.0, rest.1)

abbrev Pointless : List (List ℕ) → Type 0
Pointless names = Each (Lacks 46) names

other_names : (xs ys : List (List ℕ)) → Pointless xs → Pointless ys → behind_points xs ≡ behind_points ys → xs ≡ ys
other_names [] [] hx hy e = refl
other_names [] (y ∷ ys) hx hy e = absurd (cc)
other_names (x ∷ xs) [] hx hy e = absurd (cc)
other_names (x ∷ xs) (y ∷ ys) hx hy e =
    let first = first_name x y xs ys hx.0 hy.0 (cc) in
    ap₂ (λ (z : List ℕ) (zs : List (List ℕ)). z ∷ zs) first.0 (other_names xs ys hx.1 hy.1 first.1)

lowered_pointless : (names : List (List ℕ)) → Each IsPlain names → Pointless (map in_lower_case names)
lowered_pointless [] h = tt
lowered_pointless (x ∷ names) h = (plain_lacks 46 x refl (omega arith) h.0, lowered_pointless names h.1)

-- names are known by how they are printed, but for case
pub names_from : (x y : List ℕ) (xs ys : List (List ℕ)) → Each IsPlain (x ∷ xs) → Each IsPlain (y ∷ ys) → in_lower_case (dotted (x ∷ xs)) ≡ in_lower_case (dotted (y ∷ ys)) → map in_lower_case (x ∷ xs) ≡ map in_lower_case (y ∷ ys)
names_from x y xs ys hx hy e =
    let px = lowered_pointless (x ∷ xs) hx in
    let py = lowered_pointless (y ∷ ys) hy in
    let first = first_name (in_lower_case x) (in_lower_case y) (map in_lower_case xs) (map in_lower_case ys) px.0 py.0 (sym (lowered_dotted (x ∷ xs)) ∙ e ∙ lowered_dotted (y ∷ ys)) in
    ap₂ (λ (z : List ℕ) (zs : List (List ℕ)). z ∷ zs) first.0 (other_names (map in_lower_case xs) (map in_lower_case ys) px.1 py.1 first.1)

pub lowered_same : (xs ys : List (List ℕ)) → map in_lower_case xs ≡ map in_lower_case ys → in_lower_case (dotted xs) ≡ in_lower_case (dotted ys)
lowered_same xs ys e = lowered_dotted xs ∙ ap dotted e ∙ sym (lowered_dotted ys)

-- a name in its form
pub plain_from : (name : List ℕ) → is_identifier name ≡ true → IsPlain name
plain_from name h = search rules
