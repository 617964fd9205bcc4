-- A block is found by its name, and by no other.
use Rattle.std.proofs.Common.{◌≡◌, ℕ, List, [], ◌∷◌, Bool, true, false, Option, Some, None, refl, ap, ◌∙◌, subst}
use Rattle.std.specs.Prelude.{IfNone, if◌then◌else◌}
use Rattle.std.specs.List.{find}
use Rattle.std.specs.Str.{bytes_eq, str_eq_ignore_ascii_case}
use Rattle.std.proofs.lemmas.Slice.Eq.{bytes_eq-Decides}
use Rattle.plcx_types.specs.Name.{in_lower_case}
use Rattle.plcx_std.specs.declared.kind.StdKind.{StdKind}
use Rattle.plcx_std.specs.declared.kind.StdKind.TheVariants.{Ton, Tof, Tp, Ctu, Ctd, Ctud, Sr, Rs, RTrig, FTrig}
use Rattle.plcx_std.specs.Kind.{kind_name, NamesKind, all_kinds, first_named, kind_named}

pub kind_again : (k : StdKind) → kind_named (kind_name k) ≡ Some k
kind_again Ton = refl
kind_again Tof = refl
kind_again Tp = refl
kind_again Ctu = refl
kind_again Ctd = refl
kind_again Ctud = refl
kind_again Sr = refl
kind_again Rs = refl
kind_again RTrig = refl
kind_again FTrig = refl

-- a block by its name in lower case
abbrev by_key : List ℕ → Option StdKind
by_key key = find (λ k. bytes_eq key (in_lower_case (kind_name k))) all_kinds

pub kind_reads : (word : List ℕ) (k : StdKind) → NamesKind word k → kind_named word ≡ Some k
kind_reads word k names = ap by_key names ∙ kind_again k

first_is : (ks : List StdKind) (word : List ℕ) (k : StdKind) → first_named word ks ≡ Some k → NamesKind word k
first_is [] word k h = absurd (cc)
first_is (j ∷ ks) word k h = by (str_eq_ignore_ascii_case word (kind_name j)) refl (first_is ks word k) h
  where
    by : (b : Bool) → str_eq_ignore_ascii_case word (kind_name j) ≡ b → (first_named word ks ≡ Some k → NamesKind word k) → (if b then Some j else first_named word ks) ≡ Some k → NamesKind word k
    by true e later h = let same : j ≡ k = cc in subst (NamesKind word) same ((bytes_eq-Decides _ _).0 e)
    by false e later h = later h

pub kind_is : (word : List ℕ) (k : StdKind) → kind_named word ≡ Some k → NamesKind word k
kind_is word k h = first_is all_kinds word k h

pub no_kind : (word : List ℕ) (found : Option StdKind) → found ≡ kind_named word → IfNone found ((k : StdKind) → NamesKind word k → ⊥)
no_kind word (Some k) is = tt
no_kind word None is = λ k names. absurd (let both : None ≡ Some k = is ∙ kind_reads word k names in cc)
