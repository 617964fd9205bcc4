-- Paths of names, and what they are in the words of the meaning.
use Rattle.std.proofs.Common.{◌≡◌, ◌<◌, length, get_or, ◌↔◌, ◌∷◌, ◌++◌, ◌∙◌, ℕ, Bool, true, false, List, [], map, reverse, IsTrue, refl, sym, ap, ap₂}
use Rattle.std.specs.Prelude.{not, ◌&&◌}
use Rattle.std.specs.Bool.{one_answer}
use Rattle.std.specs.List.{list_all}
use Rattle.std.proofs.lemmas.List.{reverse-append, reverse-reverse, get_or-map}
use Rattle.indexmap.proofs.ReorderLemmas.{map-reverse}
use Rattle.plcx_types.specs.Name.{in_lower_case}
use Rattle.plcx_types.specs.Reserved.{is_own}
use Rattle.plcx_meaning.specs.Base.{Path, same_path, is_declared}
use Rattle.plcx_meaning.proofs.Names.{bytes_self, own_folded}
use Rattle.plcx_meaning.proofs.Starts.{path_same}
use Rattle.plcx_state.specs.Layouts.{meant_path}

pub path_self : (p : Path) → same_path p p ≡ true
path_self [] = refl
path_self (x ∷ p) = ap₂ (λ a b. a && b) (bytes_self x) (path_self p)

pub same_if : (p q : Path) → p ≡ q → same_path p q ≡ true
same_if p q e = ap (λ r. same_path p r) (sym e) ∙ path_self p

lowered_backwards : (names : List (List ℕ)) → meant_path names ≡ reverse (map in_lower_case names)
lowered_backwards names = map-reverse in_lower_case names

-- names that are the same but for case, in order, are one path
pub lowered_from : (xs ys : List (List ℕ)) → meant_path xs ≡ meant_path ys → map in_lower_case xs ≡ map in_lower_case ys
lowered_from xs ys e =
    sym (reverse-reverse (map in_lower_case xs)) ∙ ap reverse (sym (lowered_backwards xs) ∙ e ∙ lowered_backwards ys) ∙ reverse-reverse (map in_lower_case ys)

pub meant_from : (xs ys : List (List ℕ)) → map in_lower_case xs ≡ map in_lower_case ys → meant_path xs ≡ meant_path ys
meant_from xs ys e = lowered_backwards xs ∙ ap reverse e ∙ sym (lowered_backwards ys)

pub same_meant : (b : Bool) (xs ys : List (List ℕ)) → (IsTrue b ↔ (map in_lower_case xs ≡ map in_lower_case ys)) → b ≡ same_path (meant_path ys) (meant_path xs)
same_meant b xs ys h =
    one_answer b (same_path (meant_path ys) (meant_path xs)) h
    ((λ e. lowered_from xs ys (sym (path_same (meant_path ys) (meant_path xs) e))), (λ e. same_if (meant_path ys) (meant_path xs) (sym (meant_from xs ys e))))

module _ {X : Type 0} (t : X → Bool) where
  and_shift : (a b c : Bool) → (a && (b && c)) ≡ ((a && b) && c)
  and_shift true b c = refl
  and_shift false b c = refl

  and_swap : (a b : Bool) → (a && (b && true)) ≡ (b && a)
  and_swap true true = refl
  and_swap true false = refl
  and_swap false true = refl
  and_swap false false = refl

  pub all-append : (xs ys : List X) → list_all t (xs ++ ys) ≡ (list_all t xs && list_all t ys)
  all-append [] ys = refl
  all-append (x ∷ xs) ys = ap (λ b. t x && b) (all-append xs ys) ∙ and_shift (t x) (list_all t xs) (list_all t ys)

  all-reverse : (xs : List X) → list_all t (reverse xs) ≡ list_all t xs
  all-reverse [] = refl
  all-reverse (x ∷ xs) =
      ap (list_all t) (reverse-append (x ∷ []) xs) ∙ all-append (reverse xs) (x ∷ []) ∙ ap (λ b. b && (t x && true)) (all-reverse xs) ∙ and_swap (list_all t xs) (t x)

not_own_lowered : (names : List (List ℕ)) → list_all (λ name. not (is_own name)) (map in_lower_case names) ≡ list_all (λ name. not (is_own name)) names
not_own_lowered [] = refl
not_own_lowered (x ∷ names) = ap₂ (λ a b. not a && b) (own_folded x) (not_own_lowered names)

pub declared_meant : (b : Bool) (names : List (List ℕ)) → b ≡ list_all (λ name. not (is_own name)) names → b ≡ is_declared (meant_path names)
declared_meant b names e = e ∙ sym (all-reverse (λ name. not (is_own name)) names) ∙ sym (not_own_lowered (reverse names))

-- names of lists that agree but for case agree at each place
pub lowered_at : (xs ys : List (List ℕ)) (i : ℕ) (x y : List ℕ) → i < length xs → i < length ys → x ≡ get_or xs i x → y ≡ get_or ys i y → map in_lower_case xs ≡ map in_lower_case ys → in_lower_case x ≡ in_lower_case y
lowered_at xs ys i x y p q a b e =
    ap in_lower_case a ∙ sym (get_or-map in_lower_case xs i x [] p) ∙ ap (λ (zs : List (List ℕ)). get_or zs i []) e ∙ get_or-map in_lower_case ys i y [] q ∙ ap in_lower_case (sym b)
