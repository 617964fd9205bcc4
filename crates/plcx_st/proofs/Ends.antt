-- Where a printed token ends.
use Rattle.std.proofs.Common.{◌≡◌, ◌-◌, ◌+◌, ◌<◌, ℕ, suc, true, false, inl, inr, List, [], ◌∷◌, ◌++◌, length, take, get_or, refl, ap, sym, subst, ◌∙◌, arith, nat_eq, length-append}
use Rattle.std.specs.Prelude.{codes, not}
use Rattle.std.specs.List.{list_all}
use Rattle.std.proofs.lemmas.Bool.{and_parts, eq-eqb}
use Rattle.std.proofs.Math.Seq.{take-append_seam, take-append-add}
use Rattle.plcx_types.specs.Name.{is_next_byte}
use Rattle.plcx_lex.specs.declared.token.TokenKind.{TokenKind}
use Rattle.plcx_lex.specs.declared.token.TokenKind.TheVariants as kind
use Rattle.plcx_types.specs.Address.{is_one_of}
use Rattle.plcx_lex.specs.Lexis.{IsToken, Longest, NoComment}
use Rattle.plcx_st.proofs.Inside.{member_test, head, opposite, is_stop, stops, stop_inside, point_inside, lone, alone, token_some}

longest_rest : (k : TokenKind) (text : List ℕ) (b : ℕ) (rest : List ℕ) (m : ℕ) (other : TokenKind) → length text < m → ((more : List ℕ) → IsToken other (text ++ b ∷ more) → ⊥) → IsToken other (take m (text ++ b ∷ rest)) → ⊥
longest_rest k text b rest m other lt never h =
    let more : m ≡ length text + suc (m - length text - 1) = omega arith in
    never (take (m - length text - 1) rest) (subst (IsToken other) (ap (λ i. take i (text ++ b ∷ rest)) more ∙ take-append-add text (b ∷ rest) (suc (m - length text - 1))) h)

pub longest_of : (k : TokenKind) (text rest : List ℕ) → IsToken k text → ((other : TokenKind) (more : List ℕ) → 0 < length rest → IsToken other (text ++ head rest ∷ more) → ⊥) → Longest (text ++ rest) k (length text)
longest_of k text [] is never = record {
  within = omega (arith, length-append text []);
  formed = subst (IsToken k) (sym (take-append_seam text [])) is;
  longest = λ m other lt le h. omega (arith, length-append text [], lt, le);
}
longest_of k text (b ∷ rest) is never = record {
  within = omega (arith, length-append text (b ∷ rest));
  formed = subst (IsToken k) (sym (take-append_seam text (b ∷ rest))) is;
  longest = λ m other lt le h. longest_rest k text b rest m other lt (λ more. never other more (omega arith)) h;
}

-- no comment begins with these two bytes
abbrev NoOpen : ℕ → ℕ → Type 0
NoOpen x y = ((x ≡ 40) → (y ≡ 42) → ⊥) × ((x ≡ 47) → (y ≡ 47) → ⊥)

no_comment : (x : ℕ) (rest : List ℕ) → NoOpen x (get_or rest 0 0) → NoComment (x ∷ rest)
no_comment x rest safe n (inl c) = safe.0 c.opens.0 c.opens.1
no_comment x rest safe n (inr c) = safe.1 c.opens.0 c.opens.1

-- the token is the longest there, and no comment
pub record Ends (k : TokenKind) (text rest : List ℕ) : Type 0 where
  pub token : Longest (text ++ rest) k (length text)
  pub plain : NoComment (text ++ rest)

not_both : (x y : ℕ) → nat_eq x y ≡ false → x ≡ y → ⊥
not_both x y apart is = (let bad : false ≡ true = sym apart ∙ eq-eqb x y is in absurd cc)

stop_not : (b c : ℕ) → list_all (λ s. not (nat_eq s c)) stops ≡ true → is_stop b ≡ true → b ≡ c → ⊥
stop_not b c all stop is = opposite (nat_eq b c) (eq-eqb b c is) (member_test (λ s. not (nat_eq s c)) stops b all stop)

lone_40 : (x : ℕ) → x ≡ 40 → is_one_of lone x ≡ true
lone_40 x h = ap (is_one_of lone) h

lone_47 : (x : ℕ) → x ≡ 47 → is_one_of lone x ≡ true
lone_47 x h = ap (is_one_of lone) h

pub ends_stop : (k : TokenKind) (text : List ℕ) (b : ℕ) (rest : List ℕ) → IsToken k text → is_stop b ≡ true → Ends k text (b ∷ rest)
ends_stop k [] b rest is stop = absurd (omega (arith, token_some k [] is))
ends_stop k (x ∷ []) b rest is stop = record {
  token = longest_of k (x ∷ []) (b ∷ rest) is (λ other more some h. stop_inside other x [] b more h stop);
  plain = no_comment x (b ∷ rest) ((λ p q. stop_not b 42 refl stop q), (λ p q. stop_not b 47 refl stop q));
}
ends_stop k (x ∷ y ∷ w) b rest is stop = record {
  token = longest_of k (x ∷ y ∷ w) (b ∷ rest) is (λ other more some h. stop_inside other x (y ∷ w) b more h stop);
  plain = no_comment x ((y ∷ w) ++ b ∷ rest) ((λ p q. alone k x y w (lone_40 x p) is), (λ p q. alone k x y w (lone_47 x p) is));
}

word_first : (x : ℕ) (w : List ℕ) (c : ℕ) → list_all is_next_byte (x ∷ w) ≡ true → is_next_byte c ≡ false → x ≡ c → ⊥
word_first x w c word other is = (let bad : true ≡ false = sym (and_parts (is_next_byte x) (list_all is_next_byte w) word).0 ∙ ap is_next_byte is ∙ other in absurd cc)

pub ends_point : (k : TokenKind) (text rest : List ℕ) → IsToken k text → list_all is_next_byte text ≡ true → Ends k text (46 ∷ rest)
ends_point k [] rest is word = absurd (omega (arith, token_some k [] is))
ends_point k (x ∷ w) rest is word = record {
  token = longest_of k (x ∷ w) (46 ∷ rest) is (λ other more some h. point_inside other x w more word h);
  plain = no_comment x (w ++ 46 ∷ rest) ((λ p q. word_first x w 40 word refl p), (λ p q. word_first x w 47 word refl p));
}

at_head : (rest : List ℕ) → get_or rest 0 0 ≡ head rest
at_head [] = refl
at_head (b ∷ rest) = refl

pub ends_open : (rest : List ℕ) → (head rest ≡ 42 → ⊥) → Ends kind.Sign (codes "(") rest
ends_open rest star = record {
  token = longest_of kind.Sign (codes "(") rest refl (λ other more some h. alone other 40 (head rest) more refl h);
  plain = no_comment 40 rest ((λ p q. star (sym (at_head rest) ∙ q)), (λ p q. omega (arith, p)));
}

pub ends_dot : (k : TokenKind) (rest : List ℕ) → IsToken k (codes ".") → Ends k (codes ".") rest
ends_dot k rest is = record {
  token = longest_of k (codes ".") rest is (λ other more some h. alone other 46 (head rest) more refl h);
  plain = no_comment 46 rest ((λ p q. omega (arith, p)), (λ p q. omega (arith, p)));
}
