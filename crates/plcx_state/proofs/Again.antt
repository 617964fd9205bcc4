-- Printed lines are read again.
use Rattle.std.proofs.Common.{◌≡◌, ◌<◌, ◌+◌, ◌-◌, ◌∷◌, ◌++◌, ◌∙◌, ℕ, zero, suc, Bool, true, false, List, [], Option, Some, None, cond, map, take, drop, length, refl, sym, ap, ap₂, subst, arith, append_assoc, zero-add, length-append}
use Rattle.std.specs.Prelude.{slice_get, slice_index, decimal, not, nat_lt, ◌&&◌, ◌==◌, ℤ, pos, negsuc, codes, if◌then◌else◌}
use Rattle.std.specs.Fmt.{signed_decimal}
use Rattle.std.specs.List.{list_any, list_all, flat_map}
use Rattle.std.proofs.lemmas.Bool.{and_parts, and_from, or_parts, or_from, not-true, not_from_false, ne_eqb, lt-ltb, ltb-true}
use Rattle.std.proofs.lemmas.Bool.Decides.{nat_tests}
use Rattle.std.proofs.lemmas.List.{take_at, drop_at, length_push, get_or_push}
use Rattle.bstr.specs.Text.{line_len, lines_of, lines_from, no_cr, without_terminator}
use Rattle.bstr.proofs.lemmas.LineLemmas.{lines-step}
use Rattle.plcx_types.specs.declared.ty.Ty.{Ty}
use Rattle.plcx_types.specs.declared.ty.Ty.TheVariants as ty
use Rattle.plcx_types.specs.Lists.{Each}
use Rattle.plcx_types.specs.Name.{is_next_byte}
use Rattle.plcx_types.specs.Printed.{printed, typed_number, truth_word}
use Rattle.plcx_types.specs.Literal.{value, StandsForValue}
use Rattle.plcx_types.specs.TypeName.{type_name}
use Rattle.plcx_types.specs.Value.{Value}
use Rattle.plcx_types.proofs.Printing.{printed_again}
use Rattle.plcx_meaning.specs.Base.{Path, same_path}
use Rattle.plcx_meaning.specs.Layout.{all_apart}
use Rattle.plcx_meaning.proofs.Names.{Digits, of_decimal}
use Rattle.plcx_state.specs.declared.layout.Leaf.{Leaf}
use Rattle.plcx_state.specs.Layouts.{Laid, IsLaid, meant_path, is_kept, dotted}
use Rattle.plcx_state.specs.Retains.{Pairwise, kept_of}
use Rattle.plcx_state.specs.Lines.{Said, IsLine, said_at, kept_by, file_lines, StandsForRetained, retained_line, retained_lines}
use Rattle.plcx_state.specs.Meanings.{IsTypedFor, kept_values, IsReadAgain}
use Rattle.plcx_state.specs.Tables.{IsPlain, HasPlainNames}
use Rattle.plcx_state.proofs.Paths.{all-append, same_if}
use Rattle.plcx_state.proofs.Pairing.{long}
use Rattle.plcx_state.proofs.Places.{paths, swapped}

-- bytes that end no line
abbrev visible : ℕ → Bool
visible b = nat_lt 31 b

abbrev Visible : List ℕ → Type 0
Visible text = list_all visible text ≡ true

visible_both : (xs ys : List ℕ) → Visible xs → Visible ys → Visible (xs ++ ys)
visible_both xs ys h k = all-append visible xs ys ∙ ap₂ (λ a b. a && b) h k

next_visible : (b : ℕ) → is_next_byte b ≡ true → visible b ≡ true
next_visible b h = lt-ltb 31 b (above b h)
  where
    above : (c : ℕ) → is_next_byte c ≡ true → 31 < c
    above c h = grind (arith, nat_tests)

plain_visible : (name : List ℕ) → IsPlain name → Visible name
plain_visible [] h = refl
plain_visible (b ∷ name) h = let p = and_parts (is_next_byte b) (list_all is_next_byte name) h in and_from (visible b) (list_all visible name) (next_visible b p.0) (plain_visible name p.1)

points_visible : (names : List (List ℕ)) → Each IsPlain names → Visible (flat_map (λ other. codes "." ++ other) names)
points_visible [] h = refl
points_visible (x ∷ names) h = visible_both x (flat_map (λ other. codes "." ++ other) names) (plain_visible x h.0) (points_visible names h.1)

dotted_visible : (names : List (List ℕ)) → Each IsPlain names → Visible (dotted names)
dotted_visible [] h = refl
dotted_visible (x ∷ names) h = visible_both x (flat_map (λ other. codes "." ++ other) names) (plain_visible x h.0) (points_visible names h.1)

digits_visible : (ds : List ℕ) → Digits ds → Visible ds
digits_visible [] h = refl
digits_visible (d ∷ ds) h = and_from (visible d) (list_all visible ds) (lt-ltb 31 d (let low = h.0 in omega arith)) (digits_visible ds h.2)

number_visible : (n : ℤ) → Visible (signed_decimal n)
number_visible (pos n) = digits_visible (decimal n) (of_decimal n)
number_visible (negsuc n) = digits_visible (decimal (suc n)) (of_decimal (suc n))

type_visible : (t : Ty) → Visible (type_name t)
type_visible ty.Bool = refl
type_visible ty.Byte = refl
type_visible ty.Word = refl
type_visible ty.Dword = refl
type_visible ty.Lword = refl
type_visible ty.Sint = refl
type_visible ty.Int = refl
type_visible ty.Dint = refl
type_visible ty.Lint = refl
type_visible ty.Usint = refl
type_visible ty.Uint = refl
type_visible ty.Udint = refl
type_visible ty.Ulint = refl
type_visible ty.Time = refl

typed_visible : (t : Ty) (n : ℤ) → Visible (typed_number t n)
typed_visible t n = visible_both (type_name t) (codes "#" ++ signed_decimal n) (type_visible t) (number_visible n)

truth_visible : (n : ℤ) → Visible (truth_word n)
truth_visible (pos zero) = refl
truth_visible (pos (suc zero)) = refl
truth_visible (pos (suc (suc n))) = typed_visible ty.Bool (pos (suc (suc n)))
truth_visible (negsuc n) = typed_visible ty.Bool (negsuc n)

time_visible : (n : ℤ) → Visible (codes "T#" ++ (signed_decimal n ++ codes "ms"))
time_visible n = visible_both (signed_decimal n) (codes "ms") (number_visible n) refl

printed_visible : (t : Ty) (n : ℤ) → Visible (printed (value t n))
printed_visible ty.Bool n = truth_visible n
printed_visible ty.Byte n = typed_visible ty.Byte n
printed_visible ty.Word n = typed_visible ty.Word n
printed_visible ty.Dword n = typed_visible ty.Dword n
printed_visible ty.Lword n = typed_visible ty.Lword n
printed_visible ty.Sint n = typed_visible ty.Sint n
printed_visible ty.Int n = typed_visible ty.Int n
printed_visible ty.Dint n = typed_visible ty.Dint n
printed_visible ty.Lint n = typed_visible ty.Lint n
printed_visible ty.Usint n = typed_visible ty.Usint n
printed_visible ty.Uint n = typed_visible ty.Uint n
printed_visible ty.Udint n = typed_visible ty.Udint n
printed_visible ty.Ulint n = typed_visible ty.Ulint n
printed_visible ty.Time n = time_visible n

-- a line of such bytes
end_at : (text rest : List ℕ) → Visible text → line_len (text ++ 10 ∷ rest) ≡ length text + 1
unfolding line_len
end_at [] rest h = refl
end_at (b ∷ text) rest h =
    let p = and_parts (visible b) (list_all visible text) h in
    let low = ltb-true 31 b p.0 in
    let z : suc (length text + 1) ≡ suc (length text) + 1 = omega arith in
    ap (λ c. cond c 1 (suc (line_len (text ++ 10 ∷ rest)))) (ne_eqb b 10 (λ e. absurd (omega arith))) ∙ ap suc (end_at text rest p.1) ∙ z

visible_at : (text : List ℕ) (i : ℕ) → Visible text → i < length text → 31 < slice_index text i
visible_at [] i h lt = absurd (omega arith)
visible_at (b ∷ text) zero h lt = ltb-true 31 b (and_parts (visible b) (list_all visible text) h).0
visible_at (b ∷ text) (suc i) h lt = visible_at text i (and_parts (visible b) (list_all visible text) h).1 (omega arith)

keeps_end : (text : List ℕ) → Visible text → no_cr text ≡ text
keeps_end [] h = refl
keeps_end (b ∷ text) h =
    let last = visible_at (b ∷ text) (length (b ∷ text) - 1) h (omega arith) in
    let other : (slice_index (b ∷ text) (length (b ∷ text) - 1) == 13) ≡ false = ne_eqb _ 13 (λ e. absurd (omega arith)) in
    let some : nat_lt 0 (length (b ∷ text)) ≡ true = lt-ltb 0 (length (b ∷ text)) (omega arith) in
    ap₂ (λ p q. cond (p && q) (take (length (b ∷ text) - 1) (b ∷ text)) (b ∷ text)) some other

ends_once : (text : List ℕ) → Visible text → without_terminator (text ++ 10 ∷ []) ≡ text
ends_once text h =
    let long : length (text ++ 10 ∷ []) ≡ length text + 1 = length_push text 10 in
    let less : length text + 1 - 1 ≡ length text = omega arith in
    let last : slice_index (text ++ 10 ∷ []) (length text) ≡ 10 = get_or_push text 10 0 (length text) refl in
    let some : nat_lt 0 (length text + 1) ≡ true = lt-ltb 0 (length text + 1) (omega arith) in
    rw (long, less, last, some, take_at text (10 ∷ []) (length text) refl) (keeps_end text h)

pub first_line : (text rest : List ℕ) → Visible text → file_lines (text ++ 10 ∷ rest) ≡ text ∷ file_lines rest
first_line text rest h =
    let some : 0 < length (text ++ 10 ∷ rest) = simp length-append (omega arith) in
    let apart : text ++ 10 ∷ rest ≡ (text ++ 10 ∷ []) ++ rest = sym (append_assoc text (10 ∷ []) rest) in
    let ends : line_len (text ++ 10 ∷ rest) ≡ length text + 1 = end_at text rest h in
    let front : take (length text + 1) (text ++ 10 ∷ rest) ≡ text ++ 10 ∷ [] = ap (take (length text + 1)) apart ∙ take_at (text ++ 10 ∷ []) rest (length text + 1) (length_push text 10) in
    let back : drop (length text + 1) (text ++ 10 ∷ rest) ≡ rest = ap (drop (length text + 1)) apart ∙ drop_at (text ++ 10 ∷ []) rest (length text + 1) (length_push text 10) in
    ap (map without_terminator) (lines-step (text ++ 10 ∷ rest) some ∙ ap₂ (λ (l : List ℕ) (r : List ℕ). l ∷ lines_of r) (ap (λ n. take n (text ++ 10 ∷ rest)) ends ∙ front) (ap (λ n. drop n (text ++ 10 ∷ rest)) ends ∙ back))
    ∙ ap (λ l. l ∷ file_lines rest) (ends_once text h)

no_lines : file_lines [] ≡ []
unfolding lines_from
no_lines = refl

-- a line without its end
abbrev body : Leaf → Value → List ℕ
body leaf v = codes "retain," ++ (dotted leaf.path ++ (codes "," ++ printed v))

body_visible : (leaf : Leaf) (v : Value) → HasPlainNames leaf → Visible (body leaf v)
body_visible leaf v h = visible_both (dotted leaf.path) (codes "," ++ printed v) (dotted_visible leaf.path h) (printed_visible v.ty v.n)

body_end : (leaf : Leaf) (v : Value) (rest : List ℕ) → retained_line leaf v ++ rest ≡ body leaf v ++ 10 ∷ rest
body_end leaf v rest =
    ap (λ t. codes "retain," ++ t)
    (append_assoc (dotted leaf.path) (codes "," ++ (printed v ++ codes "\n")) rest
    ∙ ap (λ t. dotted leaf.path ++ (codes "," ++ t)) (append_assoc (printed v) (codes "\n") rest)
    ∙ sym (append_assoc (dotted leaf.path) (codes "," ++ printed v) (10 ∷ rest)))

-- what the lines say
abbrev said_of_leaf : Leaf → Value → Said
said_of_leaf leaf v = record { path = meant_path leaf.path; value = v }

abbrev saids_of : List Leaf → List Value → List Said
saids_of [] vs = []
saids_of (l ∷ leaves) [] = []
saids_of (l ∷ leaves) (v ∷ vs) = if is_kept l then said_of_leaf l v ∷ saids_of leaves vs else saids_of leaves vs

module _ (whole : List Leaf) where
  abbrev Within : ℕ → List Leaf → Type 0
  Within k leaves = (j : ℕ) (leaf : Leaf) → slice_get leaves j ≡ Some leaf → slice_get whole (k + j) ≡ Some leaf

  later : (k : ℕ) (l : Leaf) (leaves : List Leaf) → Within k (l ∷ leaves) → Within (k + 1) leaves
  later k l leaves h j leaf at = let z : k + 1 + j ≡ k + suc j = omega arith in ap (slice_get whole) z ∙ h (suc j) leaf at

  lines_again : (k : ℕ) (leaves : List Leaf) (vs : List Value) → Within k leaves → Each HasPlainNames leaves → Pairwise IsTypedFor leaves vs → Pairwise (IsLine whole) (file_lines (retained_lines leaves vs)) (saids_of leaves vs)
  lines_again k [] vs at plain typed = subst (λ ls. Pairwise (IsLine whole) ls []) (sym no_lines) tt
  lines_again k (l ∷ leaves) [] at plain typed = absurd typed
  lines_again k (l ∷ leaves) (v ∷ vs) at plain typed = by (is_kept l) refl (lines_again (k + 1) leaves vs (later k l leaves at) plain.1 typed.1)
    where
      one : is_kept l ≡ true → IsLine whole (body l v) (said_of_leaf l v)
      one kept = record {
        leaf = l;
        number = k + 0;
        there = at 0 l refl;
        kept = kept;
        path = dotted l.path;
        literal = printed v;
        line_is = refl;
        path_is = refl;
        same = refl;
        stands = subst (λ t. StandsForValue t (printed v) v) typed.0.0 (printed_again v typed.0.1);
      }

      by : (b : Bool) → is_kept l ≡ b → Pairwise (IsLine whole) (file_lines (retained_lines leaves vs)) (saids_of leaves vs)
          → Pairwise (IsLine whole) (file_lines ((if b then retained_line l v else []) ++ retained_lines leaves vs)) (if b then said_of_leaf l v ∷ saids_of leaves vs else saids_of leaves vs)
      by true kept rest =
          subst (λ ls. Pairwise (IsLine whole) ls (said_of_leaf l v ∷ saids_of leaves vs)) (sym (ap file_lines (body_end l v (retained_lines leaves vs)) ∙ first_line (body l v) (retained_lines leaves vs) (body_visible l v plain.0))) (one kept, rest)
      by false kept rest = rest

-- no path comes twice
among_said : (p : Path) (leaves : List Leaf) (vs : List Value) → list_any (same_path p) (paths leaves) ≡ false → list_any (same_path p) (map (λ (s : Said). s.path) (saids_of leaves vs)) ≡ false
among_said p [] vs h = refl
among_said p (l ∷ leaves) [] h = refl
among_said p (l ∷ leaves) (v ∷ vs) h =
    let a = or_parts (same_path p (meant_path l.path)) (list_any (same_path p) (paths leaves)) h in by (is_kept l) a.0 (among_said p leaves vs a.1)
  where
    by : (b : Bool) → same_path p (meant_path l.path) ≡ false → list_any (same_path p) (map (λ (s : Said). s.path) (saids_of leaves vs)) ≡ false
        → list_any (same_path p) (map (λ (s : Said). s.path) (if b then said_of_leaf l v ∷ saids_of leaves vs else saids_of leaves vs)) ≡ false
    by true here rest = or_from (same_path p (meant_path l.path)) _ here rest
    by false here rest = rest

apart_again : (leaves : List Leaf) (vs : List Value) → all_apart (paths leaves) ≡ true → all_apart (map (λ (s : Said). s.path) (saids_of leaves vs)) ≡ true
apart_again [] vs h = refl
apart_again (l ∷ leaves) [] h = refl
apart_again (l ∷ leaves) (v ∷ vs) h =
    let a = and_parts (not (list_any (same_path (meant_path l.path)) (paths leaves))) (all_apart (paths leaves)) h in
    by (is_kept l) (among_said (meant_path l.path) leaves vs (not-true _ a.0)) (apart_again leaves vs a.1)
  where
    by : (b : Bool) → list_any (same_path (meant_path l.path)) (map (λ (s : Said). s.path) (saids_of leaves vs)) ≡ false → all_apart (map (λ (s : Said). s.path) (saids_of leaves vs)) ≡ true
        → all_apart (map (λ (s : Said). s.path) (if b then said_of_leaf l v ∷ saids_of leaves vs else saids_of leaves vs)) ≡ true
    by true new rest = and_from (not (list_any (same_path (meant_path l.path)) (map (λ (s : Said). s.path) (saids_of leaves vs)))) _ (not_from_false _ new) rest
    by false new rest = rest

-- a thing that is said of no path of these changes nothing
said_before : (s : Said) (saids : List Said) (leaves : List Leaf) → list_any (same_path s.path) (paths leaves) ≡ false → kept_by leaves saids ≡ kept_by leaves (s ∷ saids)
said_before s saids [] h = refl
said_before s saids (l ∷ leaves) h =
    let a = or_parts (same_path s.path (meant_path l.path)) (list_any (same_path s.path) (paths leaves)) h in
    let other : same_path (meant_path l.path) s.path ≡ false = swapped s.path (meant_path l.path) a.0 in
    ap₂ (λ (x : Option Value) (xs : List (Option Value)). x ∷ xs) (ap (λ b. kept_of l (if b then Some s.value else said_at saids (meant_path l.path))) (sym other)) (said_before s saids leaves a.1)

kept_none : (l : Leaf) (o p : Option Value) → is_kept l ≡ false → kept_of l o ≡ kept_of l p
kept_none l None None h = refl
kept_none l None (Some w) h = ap (λ b. if b then Some l.initial else None) h ∙ sym (ap (λ b. if b then Some w else None) h)
kept_none l (Some v) None h = ap (λ b. if b then Some v else None) h ∙ sym (ap (λ b. if b then Some l.initial else None) h)
kept_none l (Some v) (Some w) h = ap (λ b. if b then Some v else None) h ∙ sym (ap (λ b. if b then Some w else None) h)

kept_again : (leaves : List Leaf) (vs : List Value) → all_apart (paths leaves) ≡ true → length leaves ≡ length vs → kept_values leaves vs ≡ kept_by leaves (saids_of leaves vs)
kept_again [] [] h e = refl
kept_again [] (v ∷ vs) h e = refl
kept_again (l ∷ leaves) [] h e = absurd (omega arith)
kept_again (l ∷ leaves) (v ∷ vs) h e =
    let a = and_parts (not (list_any (same_path (meant_path l.path)) (paths leaves))) (all_apart (paths leaves)) h in
    by (is_kept l) refl (not-true _ a.0) (kept_again leaves vs a.1 (omega arith))
  where
    by : (b : Bool) → is_kept l ≡ b → list_any (same_path (meant_path l.path)) (paths leaves) ≡ false → kept_values leaves vs ≡ kept_by leaves (saids_of leaves vs)
        → kept_of l (Some v) ∷ kept_values leaves vs ≡ kept_by (l ∷ leaves) (if b then said_of_leaf l v ∷ saids_of leaves vs else saids_of leaves vs)
    by true kept new rest =
        ap₂ (λ (x : Option Value) (xs : List (Option Value)). x ∷ xs)
        (ap (λ b. kept_of l (if b then Some v else said_at (saids_of leaves vs) (meant_path l.path))) (sym (same_if (meant_path l.path) (meant_path l.path) refl)))
        (rest ∙ said_before (said_of_leaf l v) (saids_of leaves vs) leaves new)
    by false kept new rest =
        ap₂ (λ (x : Option Value) (xs : List (Option Value)). x ∷ xs) (kept_none l (Some v) (said_at (saids_of leaves vs) (meant_path l.path)) kept) rest

pub read_again : (l : Laid) → IsLaid l → Each HasPlainNames l.leaves → (vs : List Value) → Pairwise IsTypedFor l.leaves vs → StandsForRetained l.leaves (retained_lines l.leaves vs) (kept_values l.leaves vs)
read_again l laid plain vs typed = record {
  saids = saids_of l.leaves vs;
  lines = record {
    each = lines_again l.leaves 0 l.leaves vs (λ j leaf at. ap (slice_get l.leaves) (zero-add j) ∙ at) plain typed;
    apart = apart_again l.leaves vs laid.layout.apart;
  };
  kept_is = kept_again l.leaves vs laid.layout.apart (long IsTypedFor l.leaves vs typed);
}

pub is_read_again : (l : Laid) → IsLaid l → Each HasPlainNames l.leaves → IsReadAgain l
unfolding IsReadAgain
is_read_again l laid plain vs typed = read_again l laid plain vs typed
