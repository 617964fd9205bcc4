-- The draft of the file breaks no rule on what it declares, and its project is the one that is measured.
use Rattle.std.proofs.Common.{◌≡◌, ◌≤◌, ◌<◌, ◌+◌, ◌*◌, ◌%◌, ◌^◌, ℕ, zero, suc, Bool, true, false, List, [], ◌∷◌, length, map, fold, refl, ap, sym, subst, ◌∙◌, arith, None, append-nil}
use Rattle.std.specs.Prelude.{codes}
use Rattle.std.specs.List.{range_with_len, flat_map, list_all}
use Rattle.std.specs.Fmt.{decimal}
use Rattle.std.specs.Char.{to_ascii_lowercase}
use Rattle.std.specs.Str.{bytes_eq}
use Rattle.std.proofs.lemmas.Fmt.{decimal_nonempty, length-decimal-le, decimal_by_steps, decimal_injective}
use Rattle.std.proofs.lemmas.Bool.{le-leb, lt-ltb, le-ltb}
use Rattle.std.proofs.lemmas.List.{map-append}
use Rattle.std.proofs.lemmas.Slice.Eq.{bytes_eq-Decides}
use Rattle.plcx_types.specs.Name.{is_next_byte, in_lower_case}
use Rattle.plcx_types.specs.Reserved.{is_reserved, is_conversion}
use Rattle.plcx_model.specs.Verdict.{Never, Next, Kept}
use Rattle.plcx_model.specs.declared.body.BodyElement.{BodyElement}
use Rattle.plcx_model.specs.declared.project.Project.{Project}
use Rattle.plcx_model.specs.declared.project.Variable.{Variable}
use Rattle.plcx_model.specs.declared.project.PouKind.TheVariants.{Program}
use Rattle.plcx_model.specs.declared.project.ListClass.TheVariants.{Local}
use Rattle.plcx_draft.specs.declared.draft.DraftVariable.{DraftVariable}
use Rattle.plcx_draft.specs.declared.draft.DraftList.{DraftList}
use Rattle.plcx_draft.specs.declared.draft.DraftPou.{DraftPou}
use Rattle.plcx_draft.specs.declared.draft.Draft.{Draft}
use Rattle.plcx_profile.specs.declared.judging.DeclarationRule.{DeclarationRule}
use Rattle.plcx_profile.specs.declared.judging.DeclarationRule.TheVariants as rule
use Rattle.plcx_profile.specs.declared.doubling.Once.TheVariants.{VariableNames}
use Rattle.plcx_profile.specs.declared.sizes.Content.{Content}
use Rattle.plcx_profile.specs.Declarations.{Declared, OfPou, OfVariable, declared_in}
use Rattle.plcx_profile.specs.Names.{is_bad_name, has_stood}
use Rattle.plcx_profile.specs.Sizes.{plus, with_kind, with_variable, body_parts, content_of, contents, total, is_too_large}
use Rattle.plcx_profile.specs.Judged.{breaks, BreaksIn, DeclarationVerdict}
use Rattle.plcx_profile.specs.ProjectIn.{settled, pou_of, list_of, variable_of}
use Rattle.plcx_profile.specs.Profile.{ProfileVerdict, Unbroken, StandsForProject}
use Rattle.plcx_bench_project.specs.Bench.{IsMeasured, IsBench, variable_name, next_name, id_in, plain, to, term, ring_elements, ring}
use Rattle.plcx_bench_project.specs.Bench as bench
use Rattle.plcx_bench_file.specs.File.{declaration, bench_root}
use Rattle.plcx_bench_file.proofs.Digits.{of_ten, digital, all-decimal, digits-digital, front-digit}
use Rattle.plcx_bench_file.proofs.Form.{bench-form}
use Rattle.plcx_bench_file.proofs.Draft.{declared, declared_from, draft_of, variables_at, pou_at, bench-draft}
use Rattle.plcx_table.specs.Number.{is_digit}

not-both : (b : Bool) → b ≡ false → b ≡ true → ⊥
not-both true h k = cc
not-both false h k = cc

not-true : (b : Bool) → (b ≡ true → ⊥) → b ≡ false
not-true true h = absurd (h refl)
not-true false h = refl

-- names: V and a digit begin no reserved word
reserved-not : (k : ℕ) → k < 10 → (rest : List ℕ) → is_reserved (86 ∷ ((48 + k) ∷ rest)) ≡ false
unfolding is_conversion
reserved-not k h rest = of_ten (λ k. is_reserved (86 ∷ ((48 + k) ∷ rest)) ≡ false) refl refl refl refl refl refl refl refl refl refl k h

name-free : (i : ℕ) → i < 1000 → is_reserved (variable_name i) ≡ false
name-free i h =
    let f = front-digit (decimal i) (decimal_nonempty i (omega arith)) (all-decimal is_digit digits-digital i (omega arith)) in
    subst (λ (ds : List ℕ). is_reserved (86 ∷ ds) ≡ false) (sym f.2) (reserved-not f.0 f.3 f.1)

name-good : (i : ℕ) → i < 1000 → is_bad_name (variable_name i) ≡ false
unfolding is_bad_name
name-good i h =
    let short : length (decimal i) ≤ 3 = length-decimal-le 3 i (omega arith) h (omega arith) in
    let some : 0 < length (variable_name i) = omega arith in
    let within : length (variable_name i) ≤ 128 = omega arith in
    let few : length (variable_name i) ≤ 64 = omega arith in
    let next : list_all is_next_byte (decimal i) ≡ true = all-decimal is_next_byte (digital is_next_byte refl refl refl refl refl refl refl refl refl refl) i (omega arith) in
    let reserved = name-free i h in
    rw (lt-ltb 0 (length (variable_name i)) some, le-leb (length (variable_name i)) 128 within, next, le-ltb 64 (length (variable_name i)) few, reserved) refl

lower-digit : (k : ℕ) → k < 10 → to_ascii_lowercase (48 + k) ≡ 48 + k
lower-digit = of_ten (λ k. to_ascii_lowercase (48 + k) ≡ 48 + k) refl refl refl refl refl refl refl refl refl refl

lower-decimal : (n : ℕ) → n < 2 ^ 64 → in_lower_case (decimal n) ≡ decimal n
lower-decimal = decimal_by_steps (λ n ds. in_lower_case ds ≡ ds)
    (λ n lt. rw (lower-digit n lt) refl)
    (λ n ds le more. map-append to_ascii_lowercase ds ((48 + n % 10) ∷ []) ∙ rw (more, lower-digit (n % 10) (omega arith)) refl)

names-apart : (i j : ℕ) → i < 1000 → j < 1000 → i < j → bytes_eq (in_lower_case (variable_name j)) (in_lower_case (variable_name i)) ≡ false
names-apart i j hi hj lt =
    let a = lower-decimal i (omega arith) in
    let b = lower-decimal j (omega arith) in
    rw (a, b) (not-true (bytes_eq (decimal j) (decimal i)) (λ e. let same = decimal_injective j i (omega arith) (omega arith) ((bytes_eq-Decides (decimal j) (decimal i)).0 e) in absurd (omega arith)))

abbrev the_list : List DraftVariable → DraftList
the_list vs = record { class = Local; constant = false; retain = false; variables = vs }

-- what holds of each declaration, whatever stands before it
abbrev EachKeeps : List DraftPou → DeclarationRule → DraftList → Type 0
EachKeeps pous r list = (before : List Declared) (i start : ℕ) → i < 1000 → breaks pous r before (OfVariable list (declared (variable_name i) start)) ≡ false

never-variables : (pous : List DraftPou) (r : DeclarationRule) (list : DraftList) → EachKeeps pous r list → (m a at : ℕ) (before : List Declared) → a + m ≤ 1000 → Never (BreaksIn pous r) before (map (λ (v : DraftVariable). OfVariable list v) (declared_from a m at))
never-variables pous r list ok zero a at before le = tt
never-variables pous r list ok (suc m) a at before le = (λ k. not-both _ (ok before a at (omega arith)) k, never-variables pous r list ok m (a + 1) _ (OfVariable list (declared (variable_name a) at) ∷ before) (omega arith))

-- no later name has stood
abbrev IsNew : ℕ → List Declared → Type 0
IsNew a before = (j : ℕ) → a ≤ j → j < 1000 → has_stood VariableNames (in_lower_case (variable_name j)) before ≡ false

never-again : (pous : List DraftPou) (list : DraftList) (m a at : ℕ) (before : List Declared) → a + m ≤ 1000 → IsNew a before → Never (BreaksIn pous rule.VariableNames) before (map (λ (v : DraftVariable). OfVariable list v) (declared_from a m at))
unfolding breaks
never-again pous list zero a at before le new = tt
never-again pous list (suc m) a at before le new = (
  λ k. not-both _ (new a (omega arith) (omega arith)) k,
  never-again pous list m (a + 1) _ (OfVariable list (declared (variable_name a) at) ∷ before) (omega arith)
      (λ j le_j lt. rw (names-apart a j (omega arith) lt (omega arith)) (new j (omega arith) lt)),
)

keeps-names : (pous : List DraftPou) (list : DraftList) → EachKeeps pous rule.Names list
unfolding breaks
keeps-names pous list before i start h = name-good i h

keeps-pous : (pous : List DraftPou) (list : DraftList) → EachKeeps pous rule.PouNames list
unfolding breaks
keeps-pous pous list before i start h = refl

keeps-types : (pous : List DraftPou) (list : DraftList) → EachKeeps pous rule.Types list
unfolding breaks
keeps-types pous list before i start h = refl

keeps-initials : (pous : List DraftPou) (vs : List DraftVariable) → EachKeeps pous rule.Initials (the_list vs)
unfolding breaks
keeps-initials pous vs before i start h = refl

keeps-chains : (pous : List DraftPou) (list : DraftList) → EachKeeps pous rule.Chains list
unfolding breaks
keeps-chains pous list before i start h = refl

keeps-sizes : (pous : List DraftPou) (list : DraftList) → EachKeeps pous rule.Sizes list
unfolding breaks
keeps-sizes pous list before i start h = refl

keeps-addresses : (pous : List DraftPou) (list : DraftList) → EachKeeps pous rule.Addresses list
unfolding breaks
keeps-addresses pous list before i start h = refl

-- how much a program has
plus-least : (n m : ℕ) → n + m ≤ 2 ^ 22 → plus n m ≡ n + m
plus-least n m h = omega arith

plus-most : (n m : ℕ) → plus n m ≤ n + m
plus-most n m = omega arith

content-of : (pous : List DraftPou) (m a at l p : ℕ) → l + m ≤ 2 ^ 22 → p ≤ 2 ^ 22 → ◌≡◌ {A = Content} (fold (with_variable pous Local) (record { leaves = l; parts = p; blocks = [] }) (declared_from a m at)) (record { leaves = l + m; parts = p; blocks = [] })
content-of pous zero a at l p hl hp = let e : l ≡ l + 0 = omega arith in ap (λ (x : ℕ). record { leaves = x; parts = p; blocks = [] }) e
content-of pous (suc m) a at l p hl hp =
    let e : l + 1 + m ≡ l + suc m = omega arith in
    let none : plus p 0 ≡ p = omega arith in
    let k = at + length (declaration (variable_name a)).bytes in
    let same : ◌≡◌ {A = Content} (record { leaves = plus l 1; parts = plus p 0; blocks = [] }) (record { leaves = l + 1; parts = p; blocks = [] }) = rw (plus-least l 1 (omega arith), none) refl in
    ap (λ (c : Content). fold (with_variable pous Local) c (declared_from (a + 1) m k)) same ∙ (content-of pous m (a + 1) k (l + 1) p (omega arith) hp ∙ ap (λ (x : ℕ). record { leaves = x; parts = p; blocks = [] }) e)

abbrev counted : ℕ → BodyElement → ℕ
counted n e = with_kind (plus n 1) e.kind

chain : (acc a b c d : ℕ) → a ≤ acc + 1 → b ≤ a + 1 → c ≤ b + 3 → d ≤ c + 2 → d ≤ acc + 7
chain acc a b c d h1 h2 h3 h4 = omega arith

addition-most : (x : ℕ) → plus (plus (plus x 1) 1) 1 ≤ x + 3
addition-most x =
    let h1 = plus-most x 1 in
    let h2 = plus-most (plus x 1) 1 in
    let h3 = plus-most (plus (plus x 1) 1) 1 in
    omega arith

parts-of : (n m a acc : ℕ) → fold counted acc (flat_map (bench.network n) (range_with_len a m)) ≤ acc + 7 * m
parts-of n zero a acc = omega arith
parts-of n (suc m) a acc =
    let p1 = plus acc 1 in
    let p2 = plus p1 1 in
    let p3 = plus (plus (plus p2 1) 1) 1 in
    let p4 = plus (plus p3 1) 1 in
    let step : p4 ≤ acc + 7 = chain acc p1 p2 p3 p4 (plus-most acc 1) (plus-most p1 1) (addition-most p2) (omega arith) in
    let more : fold counted p4 (flat_map (bench.network n) (range_with_len (a + 1) m)) ≤ p4 + 7 * m = parts-of n m (a + 1) p4 in
    sum-of _ p4 acc m more step
  where
    sum-of : (x p acc m : ℕ) → x ≤ p + 7 * m → p ≤ acc + 7 → x ≤ acc + 7 * suc m
    sum-of x p acc m h g = omega arith

-- the program, and what it has
abbrev the_pou : ℕ → ℕ → DraftPou
the_pou n at = record {
  name = codes "Bench";
  kind = Program;
  lists = the_list (declared_from 0 n at) ∷ [];
  body = record { ladder = false; elements = ring_elements n };
  start = pou_at;
}

content-is : (pous : List DraftPou) (n at : ℕ) → n ≤ 1000 → content_of pous (the_pou n at) ≡ record { leaves = 0 + n; parts = body_parts (ring_elements n); blocks = [] }
unfolding content_of
content-is pous n at le =
    let parts : body_parts (ring_elements n) ≤ 0 + 7 * n = parts-of n n 0 0 in
    content-of pous n 0 at 0 (body_parts (ring_elements n)) (omega arith) (omega arith)

small-enough : (cs : List Content) (l p : ℕ) → l ≤ 2 ^ 18 → p ≤ 2 ^ 21 → is_too_large cs (record { leaves = l; parts = p; blocks = [] }) ≡ false
unfolding total
small-enough cs l p hl hp = rw (le-ltb (2 ^ 18) l hl, le-ltb (2 ^ 21) p hp) refl

keeps-size : (pous : List DraftPou) (n at : ℕ) → n ≤ 1000 → is_too_large (contents pous) (content_of pous (the_pou n at)) ≡ false
keeps-size pous n at le =
    let parts : body_parts (ring_elements n) ≤ 0 + 7 * n = parts-of n n 0 0 in
    subst (λ (c : Content). is_too_large (contents pous) c ≡ false) (sym (content-is pous n at le)) (small-enough (contents pous) (0 + n) (body_parts (ring_elements n)) (omega arith) (omega arith))

abbrev items : ℕ → ℕ → List Declared
items n at = OfPou (the_pou n at) ∷ map (λ (v : DraftVariable). OfVariable (the_list (declared_from 0 n at)) v) (declared_from 0 n at)

declared-are : (n at : ℕ) → declared_in (draft_of (declared_from 0 n at) (ring_elements n)) ≡ items n at
unfolding declared_in
declared-are n at = append-nil _ ∙ ap (λ (xs : List Declared). OfPou (the_pou n at) ∷ xs) (append-nil _)

pou-keeps : (pous : List DraftPou) (r : DeclarationRule) (n at : ℕ) → breaks pous r [] (OfPou (the_pou n at)) ≡ false → EachKeeps pous r (the_list (declared_from 0 n at)) → n ≤ 1000 → Never (BreaksIn pous r) [] (items n at)
pou-keeps pous r n at h ok le = (λ k. not-both _ h k, never-variables pous r (the_list (declared_from 0 n at)) ok n 0 at (OfPou (the_pou n at) ∷ []) (omega arith))

again-keeps : (pous : List DraftPou) (n at : ℕ) → n ≤ 1000 → Never (BreaksIn pous rule.VariableNames) [] (items n at)
unfolding breaks
again-keeps pous n at le = (λ k. not-both _ refl k, never-again pous (the_list (declared_from 0 n at)) n 0 at (OfPou (the_pou n at) ∷ []) (omega arith) (λ j lj lt. refl))

bench-name : is_bad_name (codes "Bench") ≡ false
unfolding is_bad_name is_conversion
bench-name = refl

verdict-of : (n at : ℕ) → n ≤ 1000 → DeclarationVerdict (draft_of (declared_from 0 n at) (ring_elements n)) None
unfolding breaks
verdict-of n at le =
    let vs = declared_from 0 n at in
    let pous = the_pou n at ∷ [] in
    let list = the_list vs in
    rw (declared-are n at) (
    Next (pou-keeps pous rule.Names n at bench-name (keeps-names pous list) le)
    (Next (pou-keeps pous rule.PouNames n at refl (keeps-pous pous list) le)
    (Next (again-keeps pous n at le)
    (Next (pou-keeps pous rule.Types n at refl (keeps-types pous list) le)
    (Next (pou-keeps pous rule.Initials n at refl (keeps-initials pous vs) le)
    (Next (pou-keeps pous rule.Chains n at refl (keeps-chains pous list) le)
    (Next (pou-keeps pous rule.Sizes n at (keeps-size pous n at le) (keeps-sizes pous list) le)
    (Next (pou-keeps pous rule.Addresses n at refl (keeps-addresses pous list) le)
    Kept))))))))

variables-are : (pous : List DraftPou) (m a at : ℕ) → map (variable_of pous) (declared_from a m at) ≡ map bench.variable (range_with_len a m)
unfolding variable_of
variables-are pous zero a at = refl
variables-are pous (suc m) a at = ap (λ (vs : List Variable). bench.variable a ∷ vs) (variables-are pous m (a + 1) (at + length (declaration (variable_name a)).bytes))

project-is : (n at : ℕ) → settled (draft_of (declared_from 0 n at) (ring_elements n)) ≡ record { pous = ring n ∷ [] }
unfolding settled pou_of list_of
project-is n at = rw (variables-are (the_pou n at ∷ []) n 0 at) refl

-- the tree of n networks stands for the project that is measured with them
pub bench-stands : (n : ℕ) → IsMeasured n → (project : Project) → StandsForProject (bench_root n) project → IsBench n project
bench-stands n m project h = h.is ∙ (ap settled (bench-draft n m) ∙ project-is n variables_at)

pub bench-verdict : (n : ℕ) → IsMeasured n → ProfileVerdict (bench_root n) None
bench-verdict n m = Unbroken (bench-form n m) (subst (λ (d : Draft). DeclarationVerdict d None) (sym (bench-draft n m)) (verdict-of n variables_at m.few))
