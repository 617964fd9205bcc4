-- The table of words is that of the keywords, and what a word is found as is what it is in the grammar.
use Rattle.std.proofs.Common.{◌≡◌, ◌||◌, not, ℕ, Bool, true, false, inl, inr, List, [], ◌∷◌, map, Some, None, refl, ap, sym, ◌∙◌, subst}
use Rattle.std.specs.Prelude.{codes, pos}
use Rattle.std.specs.List.{list_all}
use Rattle.std.specs.Str.{bytes_eq, str_eq_ignore_ascii_case}
use Rattle.std.proofs.lemmas.Bool.{cases_Bool, and_parts}
use Rattle.std.proofs.lemmas.Slice.Eq.{bytes_eq-Decides}
use Rattle.plcx_types.specs.declared.ty.Ty.TheVariants as ty
use Rattle.plcx_types.specs.Name.{in_lower_case, is_identifier}
use Rattle.plcx_types.specs.Reserved.{is_keyword, is_in}
use Rattle.plcx_types.specs.Literal as form
use Rattle.plcx_types.specs.Literal.{IsTruth}
use Rattle.plcx_lex.specs.Number as number
use Rattle.plcx_lex.specs.Lexis.{is_truth, IsToken}
use Rattle.plcx_lex.specs.Scan.{told, IsTold}
use Rattle.plcx_lex.specs.Terminal.{Table, words, found, terminal_of, kind_of}
use Rattle.plcx_lex.specs.declared.token.TokenKind.{TokenKind}
use Rattle.plcx_lex.specs.declared.token.TokenKind.TheVariants as kind
use Rattle.plcx_lex.specs.declared.terminal.Terminal.{Terminal}
use Rattle.plcx_lex.specs.declared.terminal.Terminal.TheVariants as terminals

-- whatever the case of its letters, a word of the table is a keyword, and a keyword is in the table
listed_keyword : (word : List ℕ) → is_in (map (λ (e : List ℕ × Terminal). e.0) words) word ≡ is_keyword word
listed_keyword word = refl

-- the kind of a word, by whether it is TRUE or FALSE
abbrev suits : TokenKind → Bool → Bool
suits kind.Keyword is = not is
suits kind.Number is = is
suits kind.Name is = false
suits kind.Digits is = false
suits kind.Address is = false
suits kind.Sign is = false

abbrev is_row : List ℕ × Terminal → Bool
is_row e = suits (kind_of e.1) (is_truth e.0)

all_rows : list_all is_row words ≡ true
all_rows = refl

-- what is told of a word
record Row (table : Table) (word : List ℕ) (t : Terminal) : Type 0 where
  listed : is_in (map (λ (e : List ℕ × Terminal). e.0) table) word ≡ true
  found : found str_eq_ignore_ascii_case table word ≡ t
  suits : suits (kind_of t) (is_truth word) ≡ true

truth_same : (word other : List ℕ) → in_lower_case word ≡ in_lower_case other → is_truth word ≡ is_truth other
truth_same word other same = ap (λ x. bytes_eq x (codes "true") || bytes_eq x (codes "false")) same

told_row : (table : Table) (word : List ℕ) (t : Terminal) → list_all is_row table ≡ true → told table word ≡ Some t → Row table word t
unfolding told
told_row [] word t all is = absurd (cc)
told_row (e ∷ es) word t all is =
    let parts = and_parts (is_row e) (list_all is_row es) all in
    elim (cases_Bool (str_eq_ignore_ascii_case word e.0)) [
      | inl same ↦ (
          let here : Some e.1 ≡ Some t = rw same at is in
          let one : e.1 ≡ t = cc in
          let truth : is_truth word ≡ is_truth e.0 = truth_same word e.0 ((bytes_eq-Decides (in_lower_case word) (in_lower_case e.0)).0 same) in
          record {
            listed = rw same refl;
            found = rw same one;
            suits = ap (suits (kind_of t)) truth ∙ ap (λ (u : Terminal). suits (kind_of u) (is_truth e.0)) (sym one) ∙ parts.0;
          })
      | inr other ↦ (
          let later = told_row es word t parts.1 (rw other at is) in
          record { listed = rw other later.listed; found = rw other later.found; suits = later.suits })
    ]

untold : (table : Table) (word : List ℕ) → told table word ≡ None → is_in (map (λ (e : List ℕ × Terminal). e.0) table) word ≡ false
unfolding told
untold [] word is = refl
untold (e ∷ es) word is =
    elim (cases_Bool (str_eq_ignore_ascii_case word e.0)) [
      | inl same ↦ absurd (let bad : Some e.1 ≡ None = rw same at is in cc)
      | inr other ↦ rw other (untold es word (rw other at is))
    ]

truth_number : (word : List ℕ) → is_truth word ≡ true → IsToken kind.Number word
truth_number word is =
    elim (cases_Bool (bytes_eq (in_lower_case word) (codes "true"))) [
      | inl same ↦ (ty.Bool, pos 1, number.IsTyped.truth (subst (λ (x : List ℕ). IsTruth x (pos 1)) (sym ((bytes_eq-Decides (in_lower_case word) (codes "true")).0 same)) form.IsTruth.truth))
      | inr other ↦ (
          let no : bytes_eq (in_lower_case word) (codes "false") ≡ true = rw other at is in
          (ty.Bool, pos 0, number.IsTyped.truth (subst (λ (x : List ℕ). IsTruth x (pos 0)) (sym ((bytes_eq-Decides (in_lower_case word) (codes "false")).0 no)) form.falsehood)))
    ]

number_only : (t : Terminal) → kind_of t ≡ kind.Number → t ≡ terminals.Number
number_only terminals.Number is = refl
number_only _ is = absurd (cc)

told_as : (k : TokenKind) (word : List ℕ) (t : Terminal) → kind_of t ≡ k → Row words word t → IsTold word t
told_as kind.Keyword word t is row = record {
  token = subst (λ (k : TokenKind). IsToken k word) (sym is) (sym (listed_keyword word) ∙ row.listed, not_true (is_truth word) (ap (λ (k : TokenKind). suits k (is_truth word)) (sym is) ∙ row.suits));
  terminal = sym row.found ∙ ap (λ (k : TokenKind). terminal_of k word) (sym is);
}
  where
    not_true : (b : Bool) → not b ≡ true → b ≡ false
    not_true true h = absurd (cc)
    not_true false h = refl
told_as kind.Number word t is row = record {
  token = subst (λ (k : TokenKind). IsToken k word) (sym is) (truth_number word (ap (λ (k : TokenKind). suits k (is_truth word)) (sym is) ∙ row.suits));
  terminal = number_only t is ∙ ap (λ (k : TokenKind). terminal_of k word) (sym is);
}
told_as kind.Name word t is row = absurd (let bad = ap (λ (k : TokenKind). suits k (is_truth word)) (sym is) ∙ row.suits in cc)
told_as kind.Digits word t is row = absurd (let bad = ap (λ (k : TokenKind). suits k (is_truth word)) (sym is) ∙ row.suits in cc)
told_as kind.Address word t is row = absurd (let bad = ap (λ (k : TokenKind). suits k (is_truth word)) (sym is) ∙ row.suits in cc)
told_as kind.Sign word t is row = absurd (let bad = ap (λ (k : TokenKind). suits k (is_truth word)) (sym is) ∙ row.suits in cc)

-- a word of the table
pub told_word : (word : List ℕ) (t : Terminal) → told words word ≡ Some t → IsTold word t
told_word word t is = told_as (kind_of t) word t refl (told_row words word t all_rows is)

-- a word that is not in the table is a name
pub untold_word : (word : List ℕ) → is_identifier word ≡ true → told words word ≡ None → IsTold word terminals.Name
untold_word word form is = record { token = (form, sym (listed_keyword word) ∙ untold words word is); terminal = refl }
