-- The lines of a printed unit are fine.
use Rattle.std.proofs.Common.{◌≡◌, ◌≤◌, ◌+◌, ℕ, true, false, List, [], ◌∷◌, ◌++◌, map, refl, ap, sym, subst, ◌∙◌, arith, Option, Some, None, append_assoc, nat_eq, inl, inr}
use Rattle.std.specs.Prelude.{codes}
use Rattle.std.specs.Str.{bytes_eq}
use Rattle.std.proofs.lemmas.Bool.{cases_Bool}
use Rattle.std.specs.Fmt.{decimal}
use Rattle.std.specs.List.{flat_map}
use Rattle.std.specs.Char.{to_ascii_lowercase}
use Rattle.plcx_types.specs.Address.{AddressFits}
use Rattle.plcx_types.specs.Name.{is_next_byte}
use Rattle.plcx_types.specs.Printed as literal
use Rattle.plcx_types.specs.Value.{Value}
use Rattle.plcx_lex.specs.declared.token.TokenKind.TheVariants as kind
use Rattle.plcx_lex.specs.Lexis.{IsToken}
use Rattle.plcx_types.specs.Lists.{Each}
use Rattle.plcx_meaning.specs.Tree.{PouKind, Program, FunctionBlock, Class, Local, Input, Output, InOut, Temp, Mark, Plain, Constant, Retain, Declaration, Block, Expression, Argument, Statement, Assign, Call, If, While, Case, Statements, no_statement, statement, Arms, no_arm, arm, PouText, statements}
use Rattle.plcx_st.specs.Print.{Shape, shape, word, sign, name, in_brackets, expression_shapes, arguments_shapes, Line, line, ended, opening, closing, statement_lines, statements_lines, arms_lines, address_shapes, initial_shapes, declaration_line, class_word, mark_shapes, block_lines, pou_word, pou_end, pou_lines, unit_lines}
use Rattle.plcx_st.specs.InRange.{IsWord, ExpressionInRange, ArgumentInRange, StatementInRange, StatementsInRange, ArmsInRange, DeclarationInRange, BlockInRange, PouInRange}
use Rattle.plcx_st.specs.Fitting.{ExpressionFits, ArgumentFits, StatementFits, StatementsFit, ArmsFit, InitialNumberFits, DeclarationFits, BlockFits, PouTextFits}
use Rattle.plcx_st.proofs.Inside.{head, same_bytes, address_head}
use Rattle.plcx_st.proofs.Literals.{number_token, number_head, label_token, label_head}
use Rattle.plcx_st.proofs.Lexed.{Fine, plain, FineLines}
use Rattle.plcx_st.proofs.FineShapes.{Tail, ends_line, behind_start, starts_word, starts_name, starts_open, tail_semicolon, tail_colon, tail_assign, starts, arguments_start}

pub fine_append : (a b : List Line) → FineLines a → FineLines b → FineLines (a ++ b)
fine_append [] b f g = g
fine_append (l ∷ a) b f g = (f.0, fine_append a b f.1 g)

-- `;` and the end of the line
semicolon : Tail (sign (codes ";") ∷ [])
semicolon = tail_semicolon [] ends_line

-- a word of the grammar
keyword : (w : List ℕ) (ss : List Shape) → IsToken kind.Keyword w → is_next_byte (head w) ≡ true → Tail ss → Tail (word w ∷ ss)
keyword w ss is first t = behind_start _ (starts_word kind.Keyword w ss is first t)

closing_fine : (w : List ℕ) → IsToken kind.Keyword w → is_next_byte (head w) ≡ true → Fine (closing w)
closing_fine w is first = (keyword w (sign (codes ";") ∷ []) is first semicolon).fine

opening_fine : (first last : List ℕ) (e : Expression) → IsToken kind.Keyword first → is_next_byte (head first) ≡ true → IsToken kind.Keyword last → is_next_byte (head last) ≡ true → ExpressionInRange e → ExpressionFits e
    → Fine (opening first e last)
opening_fine first last e is one is' one' good fits = (keyword first _ is one (behind_start _ (starts e 0 (word last ∷ []) good fits (keyword last [] is' one' ends_line)))).fine

assign_fine : (x : List ℕ) (e : Expression) → IsWord x → ExpressionInRange e → ExpressionFits e → Fine (name x ∷ sign (codes ":=") ∷ ended (expression_shapes 0 e))
assign_fine x e is good fits = (starts_name x _ is (tail_assign _ (behind_start _ (starts e 0 (sign (codes ";") ∷ []) good fits semicolon)))).fine

call_fine : (x : List ℕ) (args : List Argument) → IsWord x → Each ArgumentInRange args → Each ArgumentFits args → Fine (name x ∷ ended (in_brackets (arguments_shapes args)))
call_fine x args is good fits =
    let inside = arguments_start args (sign (codes ";") ∷ []) good fits semicolon in
    let o = starts_open (arguments_shapes args ++ sign (codes ")") ∷ sign (codes ";") ∷ []) inside in
    subst Fine (ap (λ (l : List Shape). name x ∷ sign (codes "(") ∷ l) (sym (append_assoc (arguments_shapes args) (sign (codes ")") ∷ []) (sign (codes ";") ∷ []))))
    (starts_name x _ is (behind_start _ o)).fine

label_fine : (n : ℕ) → n ≤ 2147483647 → Fine (shape kind.Digits (decimal n) ∷ sign (codes ":") ∷ [])
label_fine n le = (starts_word kind.Digits (decimal n) (sign (codes ":") ∷ []) (label_token n le) (label_head n le) (tail_colon [] ends_line)).fine

mutual
  unfolding statement_lines

  statement_fine : (n : ℕ) (s : Statement) → StatementInRange s → StatementFits s → FineLines (statement_lines n s)
  statement_fine n (Assign x e) good fits = (assign_fine x e good.0 good.1 fits, tt)
  statement_fine n (Call x args) good fits = (call_fine x args good.0 good.1 fits, tt)
  statement_fine n (If e body) good fits = (
    opening_fine (codes "IF") (codes "THEN") e (refl, refl) refl (refl, refl) refl good.0 fits.0,
    fine_append (statements_lines (n + 2) body) (line n (closing (codes "END_IF")) ∷ []) (statements_fine (n + 2) body good.1 fits.1) (closing_fine (codes "END_IF") (refl, refl) refl, tt),
  )
  statement_fine n (While e body) good fits = (
    opening_fine (codes "WHILE") (codes "DO") e (refl, refl) refl (refl, refl) refl good.0 fits.0,
    fine_append (statements_lines (n + 2) body) (line n (closing (codes "END_WHILE")) ∷ []) (statements_fine (n + 2) body good.1 fits.1) (closing_fine (codes "END_WHILE") (refl, refl) refl, tt),
  )
  statement_fine n (Case e arms) good fits = (
    opening_fine (codes "CASE") (codes "OF") e (refl, refl) refl (refl, refl) refl good.0 fits.0,
    fine_append (arms_lines (n + 2) arms) (line n (closing (codes "END_CASE")) ∷ []) (arms_fine (n + 2) arms good.1 fits.1) (closing_fine (codes "END_CASE") (refl, refl) refl, tt),
  )

  pub statements_fine : (n : ℕ) (ss : Statements) → StatementsInRange ss → StatementsFit ss → FineLines (statements_lines n ss)
  statements_fine n no_statement good fits = tt
  statements_fine n (statement s ss) good fits = fine_append (statement_lines n s) (statements_lines n ss) (statement_fine n s good.0 fits.0) (statements_fine n ss good.1 fits.1)

  arms_fine : (n : ℕ) (arms : Arms) → ArmsInRange arms → ArmsFit arms → FineLines (arms_lines n arms)
  arms_fine n no_arm good fits = tt
  arms_fine n (arm label body arms) good fits = (label_fine label fits.0, fine_append (statements_lines (n + 2) body) (arms_lines n arms) (statements_fine (n + 2) body good.0 fits.1) (arms_fine n arms good.1 fits.2))

-- ---- declarations

address_first : (text : List ℕ) (c : ℕ) → IsToken kind.Address text → nat_eq (to_ascii_lowercase c) 37 ≡ false → head text ≡ c → ⊥
address_first [] c is other e = (let bad : 0 ≡ 37 = address_head is in omega (arith, bad))
address_first (b ∷ text) c is other e =
    let bad : false ≡ true = sym other ∙ ap (λ x. nat_eq (to_ascii_lowercase x) 37) (sym e) ∙ ap (λ x. nat_eq x 37) (address_head is) in
    absurd cc

address_point : (text : List ℕ) → IsToken kind.Address text → bytes_eq text (codes ".") ≡ false
address_point text is = elim (cases_Bool (bytes_eq text (codes "."))) [
  | inl dot ↦ absurd (address_first text 46 is refl (ap head (same_bytes text (codes ".") dot)))
  | inr apart ↦ apart
]

address_tail : (a : Option (List ℕ)) (ss : List Shape) → AddressFits a → Tail ss → Tail (address_shapes a ++ ss)
address_tail None ss good t = t
address_tail (Some text) ss good t = keyword (codes "AT") (shape kind.Address text ∷ ss) (refl, refl) refl
    (record { fine = plain good.0 (address_first text 40 good.0 refl) t.point t.fine; point = address_point text good.0 })

initial_tail : (v : Option Value) (ss : List Shape) → InitialNumberFits v → Tail ss → Tail (initial_shapes v ++ ss)
initial_tail None ss fits t = t
initial_tail (Some v) ss fits t = tail_assign _ (behind_start _ (starts_word kind.Number (literal.printed v) ss (number_token v fits) (number_head v fits) t))

declaration_fine : (d : Declaration) → DeclarationInRange d → DeclarationFits d → Fine (declaration_line d).shapes
declaration_fine d good fits = (starts_name d.name _ good.0 (address_tail d.address _ good.1 (tail_colon _ (behind_start _ (starts_name d.ty _ good.2 (initial_tail d.initial (sign (codes ";") ∷ []) fits semicolon)))))).fine

declarations_fine : (ds : List Declaration) → Each DeclarationInRange ds → Each DeclarationFits ds → FineLines (map declaration_line ds)
declarations_fine [] good fits = tt
declarations_fine (d ∷ ds) good fits = (declaration_fine d good.0 fits.0, declarations_fine ds good.1 fits.1)

mark_tail : (m : Mark) → Tail (mark_shapes m)
mark_tail Plain = ends_line
mark_tail Constant = keyword (codes "CONSTANT") [] (refl, refl) refl ends_line
mark_tail Retain = keyword (codes "RETAIN") [] (refl, refl) refl ends_line

heading_fine : (c : Class) (m : Mark) → Fine (word (class_word c) ∷ mark_shapes m)
heading_fine Local m = (keyword (codes "VAR") (mark_shapes m) (refl, refl) refl (mark_tail m)).fine
heading_fine Input m = (keyword (codes "VAR_INPUT") (mark_shapes m) (refl, refl) refl (mark_tail m)).fine
heading_fine Output m = (keyword (codes "VAR_OUTPUT") (mark_shapes m) (refl, refl) refl (mark_tail m)).fine
heading_fine InOut m = (keyword (codes "VAR_IN_OUT") (mark_shapes m) (refl, refl) refl (mark_tail m)).fine
heading_fine Temp m = (keyword (codes "VAR_TEMP") (mark_shapes m) (refl, refl) refl (mark_tail m)).fine

word_line : (w : List ℕ) → IsToken kind.Keyword w → is_next_byte (head w) ≡ true → FineLines (line 0 (word w ∷ []) ∷ [])
word_line w is first = ((keyword w [] is first ends_line).fine, tt)

block_fine : (b : Block) → BlockInRange b → BlockFits b → FineLines (block_lines b)
block_fine b good fits = (heading_fine b.class b.mark, fine_append (map declaration_line b.declarations) (line 0 (word (codes "END_VAR") ∷ []) ∷ []) (declarations_fine b.declarations good.1 fits) (word_line (codes "END_VAR") (refl, refl) refl))

blocks_fine : (bs : List Block) → Each BlockInRange bs → Each BlockFits bs → FineLines (flat_map block_lines bs)
blocks_fine [] good fits = tt
blocks_fine (b ∷ bs) good fits = fine_append (block_lines b) (flat_map block_lines bs) (block_fine b good.0 fits.0) (blocks_fine bs good.1 fits.1)

pou_heading_fine : (k : PouKind) (x : List ℕ) → IsWord x → Fine (word (pou_word k) ∷ name x ∷ [])
pou_heading_fine Program x is = (keyword (codes "PROGRAM") (name x ∷ []) (refl, refl) refl (behind_start _ (starts_name x [] is ends_line))).fine
pou_heading_fine FunctionBlock x is = (keyword (codes "FUNCTION_BLOCK") (name x ∷ []) (refl, refl) refl (behind_start _ (starts_name x [] is ends_line))).fine

pou_end_fine : (k : PouKind) → FineLines (line 0 (word (pou_end k) ∷ []) ∷ [])
pou_end_fine Program = word_line (codes "END_PROGRAM") (refl, refl) refl
pou_end_fine FunctionBlock = word_line (codes "END_FUNCTION_BLOCK") (refl, refl) refl

pou_fine : (p : PouText) → PouInRange p → PouTextFits p → FineLines (pou_lines p)
pou_fine p good fits =
    let body : List Line = statements_lines 2 (statements p.body) in
    let end : List Line = line 0 (word (pou_end p.kind) ∷ []) ∷ [] in
    (pou_heading_fine p.kind p.name good.name, fine_append (flat_map block_lines p.blocks) (body ++ end) (blocks_fine p.blocks good.blocks fits.0) (fine_append body end (statements_fine 2 (statements p.body) good.body fits.1) (pou_end_fine p.kind)))

pub unit_fine : (unit : List PouText) → Each PouInRange unit → Each PouTextFits unit → FineLines (unit_lines unit)
unit_fine [] good fits = tt
unit_fine (p ∷ unit) good fits = fine_append (pou_lines p) (unit_lines unit) (pou_fine p good.0 fits.0) (unit_fine unit good.1 fits.1)
