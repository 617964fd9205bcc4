-- The characters of a text before the first that a file may not hold.
use Rattle.std.proofs.Common.{◌≡◌, ◌≤◌, ℕ, Bool, true, false, not, List, [], ◌∷◌, ◌++◌, length, take, drop, refl, ap, sym, subst, ◌∙◌, arith, ◌+◌, append-nil, length-append}
use Rattle.std.specs.List.{list_all, prefix_len}
use Rattle.std.specs.Char.{encode_utf8}
use Rattle.std.specs.Str.{IsUtf8, IsCharBoundary, NoCharPasses, NonePass, chars, encode_utf8_all}
use Rattle.std.proofs.lemmas.List.{take_at, take-append-drop}
use Rattle.std.proofs.lemmas.Str.{chars_from_encodes, chars-append, chars_past_char, IsUtf8-take, IsUtf8-drop, encodes-chars, encodes-append, encodes_same}
use Rattle.plcx_xml.specs.Character.{is_character, front_of}
use Rattle.plcx_xml.specs.Grammar.{Stops}
use Rattle.plcx_xml.proofs.Runs.{prefix_len-again, run-sound}

abbrev pub unknown : ℕ → Bool
unknown c = not (is_character c)

not-unknown : (b : Bool) → not b ≡ false → b ≡ true
not-unknown true h = refl
not-unknown false h = let no : ⊥ = cc in absurd no

not-known : (b : Bool) → not b ≡ true → b ≡ false
not-known true h = let no : ⊥ = cc in absurd no
not-known false h = refl

all-known : (cs : List ℕ) → NonePass unknown cs → list_all is_character cs ≡ true
all-known [] h = refl
all-known (c ∷ cs) h = rw (not-unknown (is_character c) h.0) (all-known cs h.1)

front-chars : (bytes : List ℕ) (cs ds : List ℕ) → chars bytes ≡ cs ++ ds → list_all is_character cs ≡ true → Stops is_character ds → front_of bytes ≡ encode_utf8_all cs
front-chars bytes cs ds e a s =
    let len : prefix_len is_character (chars bytes) ≡ length cs = ap (prefix_len is_character) e ∙ prefix_len-again is_character cs ds a s in
    let front : take (prefix_len is_character (chars bytes)) (chars bytes) ≡ cs = ap (λ (n : ℕ). take n (chars bytes)) len ∙ (ap (take (length cs)) e ∙ take_at cs ds (length cs) refl) in
    ap encode_utf8_all front

-- where every character is known
pub front-all : (bytes : List ℕ) → IsUtf8 bytes → NoCharPasses unknown bytes → bytes ≡ front_of bytes
front-all bytes u h =
    let cs : h.0 ≡ chars bytes = chars_from_encodes h.0 bytes u h.1 in
    sym (front-chars bytes h.0 [] (sym cs ∙ sym (append-nil h.0)) (all-known h.0 h.2) tt ∙ h.1)

-- where the first that is not stands at that offset
pub front-some : (bytes : List ℕ) (at c : ℕ) (rest : List ℕ) → IsUtf8 bytes → IsCharBoundary bytes at → NoCharPasses unknown (take at bytes) → unknown c ≡ true → drop at bytes ≡ encode_utf8 c ++ rest → take at bytes ≡ front_of bytes
front-some bytes at c rest u b h p d =
    let front = IsUtf8-take bytes at u b in
    let back = IsUtf8-drop bytes at u b in
    let cs : h.0 ≡ chars (take at bytes) = chars_from_encodes h.0 (take at bytes) front h.1 in
    let behind : chars (drop at bytes) ≡ c ∷ chars rest = chars_past_char (drop at bytes) rest c back d in
    let all : chars bytes ≡ h.0 ++ c ∷ chars rest =
    ap chars (sym (take-append-drop at bytes)) ∙ (chars-append (take at bytes) (drop at bytes) front ∙ (ap (λ (xs : List ℕ). xs ++ chars (drop at bytes)) (sym cs) ∙ ap (λ (xs : List ℕ). h.0 ++ xs) behind)) in
    sym (front-chars bytes h.0 (c ∷ chars rest) all (all-known h.0 h.2) (not-known (is_character c) p) ∙ h.1)

encodes-front : (bytes : List ℕ) → IsUtf8 bytes → encode_utf8_all (chars bytes) ≡ bytes
encodes-front bytes u = encodes-chars bytes u

-- where all characters are known the front is the whole
pub front-whole : (bytes : List ℕ) → IsUtf8 bytes → list_all is_character (chars bytes) ≡ true → front_of bytes ≡ bytes
front-whole bytes u a = front-chars bytes (chars bytes) [] (sym (append-nil (chars bytes))) a tt ∙ encodes-front bytes u

pub front-known : (bytes : List ℕ) → IsUtf8 bytes → front_of bytes ≡ bytes → list_all is_character (chars bytes) ≡ true
front-known bytes u h =
    let cs = chars bytes in
    let same : take (prefix_len is_character cs) cs ≡ cs = encodes_same (take (prefix_len is_character cs) cs) cs (h ∙ sym (encodes-front bytes u)) in
    subst (λ (ds : List ℕ). list_all is_character ds ≡ true) same (run-sound is_character cs).0

abbrev behind-front : List ℕ → List ℕ
behind-front bytes = encode_utf8_all (drop (prefix_len is_character (chars bytes)) (chars bytes))

front-split : (bytes : List ℕ) → IsUtf8 bytes → front_of bytes ++ behind-front bytes ≡ bytes
front-split bytes u =
    let n = prefix_len is_character (chars bytes) in
    sym (encodes-append (take n (chars bytes)) (drop n (chars bytes))) ∙ (ap encode_utf8_all (take-append-drop n (chars bytes)) ∙ encodes-front bytes u)

front-parted : (bytes : List ℕ) → IsUtf8 bytes → length bytes ≡ length (front_of bytes) + length (behind-front bytes)
front-parted bytes u = ap (λ (xs : List ℕ). length xs) (sym (front-split bytes u)) ∙ length-append (front_of bytes) (behind-front bytes)

pub front-within : (bytes : List ℕ) → IsUtf8 bytes → length (front_of bytes) ≤ length bytes
front-within bytes u = let p = front-parted bytes u in omega arith

nothing : (xs : List ℕ) → length xs ≡ 0 → xs ≡ []
nothing [] h = refl
nothing (x ∷ xs) h = absurd (omega arith)

-- a front as long as the whole is the whole
pub front-full : (bytes : List ℕ) → IsUtf8 bytes → length bytes ≤ length (front_of bytes) → front_of bytes ≡ bytes
front-full bytes u l =
    let p = front-parted bytes u in
    let none : behind-front bytes ≡ [] = nothing (behind-front bytes) (omega arith) in
    sym (append-nil (front_of bytes)) ∙ (ap (λ (xs : List ℕ). front_of bytes ++ xs) (sym none) ∙ front-split bytes u)
