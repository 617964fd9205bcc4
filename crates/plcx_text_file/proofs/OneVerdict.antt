-- A text has one verdict.
use Rattle.std.proofs.Common.{◌≡◌, ◌≤◌, ◌++◌, ◌∙◌, inl, inr, ℕ, List, [], length, refl, sym, ap, subst, arith}
use Rattle.std.specs.List.{Contains}
use Rattle.std.proofs.Math.Seq.{take-length}
use Rattle.std.proofs.lemmas.Bool.{cases_order}
use Rattle.plcx_meaning.specs.Ready.{IsReady}
use Rattle.plcx_meaning.proofs.Lists.{contains_none}
use Rattle.plcx_lex.specs.Token.{Token}
use Rattle.plcx_lex.specs.Lexis.{AreTextTokens, IsLexPlace, IsMade}
use Rattle.plcx_st.specs.declared.tree.Unit as tree
use Rattle.plcx_st.specs.Grammar.{IsUnit, limit}
use Rattle.plcx_st.specs.Meant.{meant}
use Rattle.plcx_st.specs.Place.{Fault, Syntax, TooDeep, HasOnePlace, FineHasNone, start_of}
use Rattle.plcx_st.specs.Stands.{StandsForUnit}
use Rattle.plcx_read.specs.Fails.{IsFaultAt}
use Rattle.plcx_conditions.specs.declared.broken.Broken as unit
use Rattle.plcx_conditions.specs.Broken.{IsFirst}
use Rattle.plcx_conditions.specs.Declarations.{broken_in}
use Rattle.plcx_conditions.specs.Placed.{Pou, bare}
use Rattle.plcx_conditions.specs.Places.{placed}
use Rattle.plcx_text_file.specs.Texts.{Keeps, Breaks, in_tokens, in_syntax, in_depth, in_unit, IsReadyText, TextBreaks, too_long, within, broken, rule_of}
use Rattle.plcx_text_file.specs.declared.broken.BrokenText.{BrokenText}
use Rattle.plcx_text_file.specs.declared.broken.TextRule.TheVariants as rule

-- bytes that are made of tokens have no place where they are not
lex_apart : (bytes : List ℕ) (at : ℕ) (ts : List Token) → IsLexPlace bytes at → AreTextTokens bytes ts → ⊥
lex_apart bytes at ts h made = h.longest (length bytes) made.0 h.inside (omega arith) (subst (λ (bs : List ℕ). IsMade bs made.0) (sym (take-length bytes)) made.1)

one_lex : (bytes : List ℕ) (at other : ℕ) → IsLexPlace bytes at → IsLexPlace bytes other → at ≡ other
one_lex bytes at other h k = elim (cases_order at other) [
  | inl e ↦ e
  | inr o ↦ elim o [
    | inl less ↦ absurd (let inside = k.inside in h.longest other k.pieces less (omega arith) k.made)
    | inr more ↦ absurd (let inside = h.inside in k.longest at h.pieces more (omega arith) h.made)
  ]
]

module _
    (one_list : (bytes : List ℕ) (first second : List Token) → AreTextTokens bytes first → AreTextTokens bytes second → first ≡ second)
    (one_place : HasOnePlace limit)
    (no_place : FineHasNone limit)
    (one_unit : (bytes : List ℕ) (u v : tree.Unit) (d c : ℕ) → StandsForUnit bytes u d → StandsForUnit bytes v c → u ≡ v)
    (one_first : (all : List unit.Broken) (b c : unit.Broken) → IsFirst all b → IsFirst all c → b ≡ c)
    (are_added : (u : tree.Unit) → bare (placed u) ≡ meant u)
    (ready_none : (ps : List Pou) → IsReady (bare ps) → broken_in ps ≡ [])
  where
    fault_same : (bytes : List ℕ) (f g : Fault) (at other : ℕ) → IsFaultAt bytes f at → IsFaultAt bytes g other → (f ≡ g) × (at ≡ other)
    fault_same bytes f g at other (before, rest, made, is, here) (before', rest', made', is', here') =
        let same = one_place before rest before' rest' f g (one_list bytes (before ++ rest) (before' ++ rest') made made') is is' in
        (same.2, here ∙ ap (λ (ts : List Token). start_of ts (length bytes)) same.1 ∙ sym here')

    fault_fine : (bytes : List ℕ) (f : Fault) (at : ℕ) (u : tree.Unit) (depth : ℕ) → IsFaultAt bytes f at → depth ≤ limit → StandsForUnit bytes u depth → ⊥
    fault_fine bytes f at u depth (before, rest, made, is, here) le stands =
        no_place before rest f is (u, depth, le, subst (λ (ts : List Token). IsUnit ts u depth) (one_list bytes stands.tokens (before ++ rest) stands.made made) stands.is)

    lex_fault : (bytes : List ℕ) (at : ℕ) (f : Fault) (other : ℕ) → IsLexPlace bytes at → IsFaultAt bytes f other → ⊥
    lex_fault bytes at f other h (before, rest, made, is, here) = lex_apart bytes at (before ++ rest) h made

    unit_same : (u v : tree.Unit) (b c : unit.Broken) → u ≡ v → IsFirst (broken_in (placed u)) b → IsFirst (broken_in (placed v)) c → b ≡ c
    unit_same u v b c same h k = one_first (broken_in (placed v)) b c (subst (λ (w : tree.Unit). IsFirst (broken_in (placed w)) b) same h) k

    one_broken : (bytes : List ℕ) (b c : BrokenText) → Breaks bytes b → Breaks bytes c → b ≡ c
    one_broken bytes _ _ (in_tokens {at} h) (in_tokens {at = other} k) = ap (broken rule.Lex) (one_lex bytes at other h k)
    one_broken bytes _ _ (in_tokens {at} h) (in_syntax {at = other} k) = absurd (lex_fault bytes at Syntax other h k)
    one_broken bytes _ _ (in_tokens {at} h) (in_depth {at = other} k) = absurd (lex_fault bytes at TooDeep other h k)
    one_broken bytes _ _ (in_tokens {at} h) (in_unit u d b le s k) = absurd (lex_apart bytes at s.tokens h s.made)
    one_broken bytes _ _ (in_syntax {at} h) (in_tokens {at = other} k) = absurd (lex_fault bytes other Syntax at k h)
    one_broken bytes _ _ (in_syntax {at} h) (in_syntax {at = other} k) = ap (broken rule.Syntax) ((fault_same bytes Syntax Syntax at other h k).1)
    one_broken bytes _ _ (in_syntax {at} h) (in_depth {at = other} k) = absurd (let same : Syntax ≡ TooDeep = (fault_same bytes Syntax TooDeep at other h k).0 in cc)
    one_broken bytes _ _ (in_syntax {at} h) (in_unit u d b le s k) = absurd (fault_fine bytes Syntax at u d h le s)
    one_broken bytes _ _ (in_depth {at} h) (in_tokens {at = other} k) = absurd (lex_fault bytes other TooDeep at k h)
    one_broken bytes _ _ (in_depth {at} h) (in_syntax {at = other} k) = absurd (let same : TooDeep ≡ Syntax = (fault_same bytes TooDeep Syntax at other h k).0 in cc)
    one_broken bytes _ _ (in_depth {at} h) (in_depth {at = other} k) = ap (broken rule.Depth) ((fault_same bytes TooDeep TooDeep at other h k).1)
    one_broken bytes _ _ (in_depth {at} h) (in_unit u d b le s k) = absurd (fault_fine bytes TooDeep at u d h le s)
    one_broken bytes _ _ (in_unit u d b le s h) (in_tokens {at = other} k) = absurd (lex_apart bytes other s.tokens k s.made)
    one_broken bytes _ _ (in_unit u d b le s h) (in_syntax {at = other} k) = absurd (fault_fine bytes Syntax other u d k le s)
    one_broken bytes _ _ (in_unit u d b le s h) (in_depth {at = other} k) = absurd (fault_fine bytes TooDeep other u d k le s)
    one_broken bytes _ _ (in_unit u d b le s h) (in_unit v e c le' s' k) =
        ap (λ (x : unit.Broken). broken (rule_of x.condition) x.at) (unit_same u v b c (one_unit bytes u v d e s s') h k)

    ready_unbroken : (u : tree.Unit) (b : unit.Broken) → IsReady (meant u) → IsFirst (broken_in (placed u)) b → ⊥
    ready_unbroken u b ready h =
        let none = ready_none (placed u) (subst IsReady (sym (are_added u)) ready) in
        contains_none b (subst (λ (all : List unit.Broken). Contains all b) none h.among)

    keeps_apart : (bytes : List ℕ) (u : tree.Unit) (b : BrokenText) → Keeps bytes u → Breaks bytes b → ⊥
    keeps_apart bytes u _ keeps (in_tokens {at} h) = lex_apart bytes at keeps.stands.tokens h keeps.stands.made
    keeps_apart bytes u _ keeps (in_syntax {at} h) = fault_fine bytes Syntax at u keeps.depth h keeps.within keeps.stands
    keeps_apart bytes u _ keeps (in_depth {at} h) = fault_fine bytes TooDeep at u keeps.depth h keeps.within keeps.stands
    keeps_apart bytes u _ keeps (in_unit v d b le s h) =
        ready_unbroken u b keeps.ready (subst (λ (w : tree.Unit). IsFirst (broken_in (placed w)) b) (one_unit bytes v u d keeps.depth s keeps.stands) h)

    pub same_unit : (bytes : List ℕ) (u v : tree.Unit) → IsReadyText bytes u → IsReadyText bytes v → u ≡ v
    same_unit bytes u v h k = one_unit bytes u v h.keeps.depth k.keeps.depth h.keeps.stands k.keeps.stands

    pub same_broken : (bytes : List ℕ) (b c : BrokenText) → TextBreaks bytes b → TextBreaks bytes c → b ≡ c
    same_broken bytes b c (too_long l) (too_long l') = refl
    same_broken bytes b c (too_long l) (within k h) = absurd (omega arith)
    same_broken bytes b c (within k h) (too_long l) = absurd (omega arith)
    same_broken bytes b c (within k h) (within k' h') = one_broken bytes b c h h'

    pub apart : (bytes : List ℕ) (u : tree.Unit) (b : BrokenText) → IsReadyText bytes u → TextBreaks bytes b → ⊥
    apart bytes u b h (too_long l) = let short = h.short in omega arith
    apart bytes u b h (within k broken) = keeps_apart bytes u b h.keeps broken
