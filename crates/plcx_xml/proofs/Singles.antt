-- A text of bytes that are characters by themselves is held to its end.
use Rattle.std.proofs.Common.{◌≡◌, ◌<◌, ℕ, zero, suc, true, List, [], ◌∷◌, refl, sym, subst, nat_lt}
use Rattle.std.specs.List.{list_all}
use Rattle.std.specs.Prelude.{slice_index}
use Rattle.std.specs.Str.{IsUtf8, IsAscii, chars}
use Rattle.std.proofs.lemmas.Bool.{ltb-true}
use Rattle.std.proofs.lemmas.Str.{chars-IsAscii}
use Rattle.std.proofs.lemmas.Str.Ascii.{IsAscii-nil}
use Rattle.plcx_xml.specs.Character.{is_character, front_of}
use Rattle.plcx_xml.specs.Single.{is_single}
use Rattle.plcx_xml.proofs.Fronts.{front-whole}
use Rattle.plcx_xml.proofs.Runs.{both-true}

one-more : (x : ℕ) (xs : List ℕ) → x < 128 → IsAscii xs → (i : ℕ) → slice_index (x ∷ xs) i < 128
one-more x xs h more zero = h
one-more x xs h more (suc i) = more i

single-ascii : (bytes : List ℕ) → list_all is_single bytes ≡ true → IsAscii bytes
single-ascii [] h = IsAscii-nil
single-ascii (x ∷ xs) h =
    let both = both-true (is_single x) (list_all is_single xs) h in
    let one = both-true (nat_lt x 128) (is_character x) both.0 in
    one-more x xs (ltb-true x 128 one.0) (single-ascii xs both.1)

single-known : (bytes : List ℕ) → list_all is_single bytes ≡ true → list_all is_character bytes ≡ true
single-known [] h = refl
single-known (x ∷ xs) h =
    let both = both-true (is_single x) (list_all is_single xs) h in
    let one = both-true (nat_lt x 128) (is_character x) both.0 in
    rw one.1 (single-known xs both.1)

-- such a text is its own front
pub front-single : (bytes : List ℕ) → IsUtf8 bytes → list_all is_single bytes ≡ true → bytes ≡ front_of bytes
front-single bytes u h =
    let same : bytes ≡ chars bytes = sym (chars-IsAscii bytes (single-ascii bytes h)) in
    let known : list_all is_character (chars bytes) ≡ true = subst (λ (cs : List ℕ). list_all is_character cs ≡ true) same (single-known bytes h) in
    sym (front-whole bytes u known)
