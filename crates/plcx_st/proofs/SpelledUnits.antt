-- The tokens of a printed unit are that unit.
use Rattle.std.proofs.Common.{◌≡◌, ℕ, max, List, [], ◌∷◌, ◌++◌, map, refl, sym, ap, subst, ◌∙◌, Option, Some, None}
use Rattle.std.specs.Prelude.{codes}
use Rattle.std.specs.List.{flat_map}
use Rattle.std.specs.Option.{option_map}
use Rattle.std.specs.Char.{to_ascii_uppercase}
use Rattle.plcx_types.specs.Value.{Value}
use Rattle.plcx_lex.specs.Token.{Token}
use Rattle.plcx_lex.specs.declared.token.TokenKind.TheVariants as kind
use Rattle.plcx_lex.specs.Number.{IsLiteral}
use Rattle.plcx_types.specs.Lists.{Each}
use Rattle.plcx_meaning.specs.Tree as meaning
use Rattle.plcx_meaning.specs.Tree.{PouKind, Program, FunctionBlock, Class, Local, Input, Output, InOut, Temp, Mark, Plain, Constant, Retain, Declaration, Block, Statement, Statements, no_statement, statement, statements}
use Rattle.plcx_st.specs.declared.tree.Number.{Number}
use Rattle.plcx_st.specs.declared.tree.Decl.{Decl}
use Rattle.plcx_st.specs.declared.tree.Mark as tree_mark
use Rattle.plcx_st.specs.declared.tree.Mark.TheVariants as marks
use Rattle.plcx_st.specs.declared.tree.TextClass.{TextClass}
use Rattle.plcx_st.specs.declared.tree.TextClass.TheVariants as class
use Rattle.plcx_st.specs.declared.tree.TextKind.{TextKind}
use Rattle.plcx_st.specs.declared.tree.TextKind.TheVariants as kinds
use Rattle.plcx_st.specs.declared.tree.TextBlock.{TextBlock}
use Rattle.plcx_st.specs.declared.tree.PouText.{PouText}
use Rattle.plcx_types.specs.Address.{AddressFits}
use Rattle.plcx_lex.specs.Terminal.{terminal_of}
use Rattle.plcx_st.specs.Grammar as grammar
use Rattle.plcx_st.specs.Grammar.{IsAddress, IsInitial, IsDecl, IsBareDecl, IsMark, IsBlock, IsPou, ArePous, AreStmts, marked_class, heading, ending}
use Rattle.plcx_st.specs.Meant.{number_meant, stmt_meant, decl_meant, class_meant, mark_meant, block_meant, kind_meant, pou_meant}
use Rattle.plcx_st.specs.Print.{Shape, shape, word, sign, name, number, Line, line, ended, statements_lines, address_shapes, initial_shapes, declaration_line, class_word, mark_shapes, block_lines, pou_word, pou_end, pou_lines, unit_lines}
use Rattle.plcx_st.specs.Depth.{pou_depth, printed_depth}
use Rattle.plcx_st.specs.InRange.{DeclarationInRange, IsBare, BlockInRange, PouInRange}
use Rattle.plcx_st.specs.Fitting.{InitialNumberFits, DeclarationFits, BlockFits, PouTextFits}
use Rattle.plcx_st.proofs.Literals.{literal_printed}
use Rattle.plcx_st.proofs.Lexed.{shapes_of}
use Rattle.plcx_st.proofs.Split.{Shaped, split, headed, empty, last_one, terminal_is, text_is}
use Rattle.plcx_st.proofs.SpelledStatements.{shapes_append, statements_shapes, statements_are, spelled_statements}

-- ---- declarations

record AddressOf (ts : List Token) (a : Option (List ℕ)) : Type 0 where
  value : Option (List ℕ)
  stands : IsAddress ts value
  is : value ≡ a

spelled_address : (a : Option (List ℕ)) (ts : List Token) → AddressFits a → Shaped ts (address_shapes a) → AddressOf ts a
spelled_address None ts good h = record { value = None; stands = subst (λ (z : List Token). IsAddress z None) (sym (empty ts h)) grammar.no_address; is = refl }
spelled_address (Some text) ts good h =
    let at = word (codes "AT") in
    let place = shape kind.Address text in
    let w = headed ts at (place ∷ []) h in
    let a = headed w.back place [] w.second in
    let parts : w.token ∷ a.token ∷ [] ≡ ts = sym (w.parts ∙ ap (λ (z : List Token). w.token ∷ z) (last_one w.back place a)) in
    record {
      value = Some (map to_ascii_uppercase a.token.text);
      stands = subst (λ (z : List Token). IsAddress z (Some (map to_ascii_uppercase a.token.text))) parts (grammar.address (terminal_is w.token at w.is) (terminal_is a.token place a.is));
      is = ap (λ (z : List ℕ). Some z) (ap (map to_ascii_uppercase) (text_is a.token place a.is) ∙ good.1);
    }

record InitialOf (ts : List Token) (v : Option Value) : Type 0 where
  value : Option Number
  stands : IsInitial ts value
  is : option_map number_meant value ≡ v

spelled_initial : (v : Option Value) (ts : List Token) → InitialNumberFits v → Shaped ts (initial_shapes v) → InitialOf ts v
spelled_initial None ts fits h = record { value = None; stands = subst (λ (z : List Token). IsInitial z None) (sym (empty ts h)) grammar.no_initial; is = refl }
spelled_initial (Some v) ts fits h =
    let assign = sign (codes ":=") in
    let a = headed ts assign (number v ∷ []) h in
    let t = headed a.back (number v) [] a.second in
    let spelt : IsLiteral t.token.text v.ty v.n = subst (λ (w : List ℕ). IsLiteral w v.ty v.n) (sym (text_is t.token (number v) t.is)) (literal_printed v fits) in
    let parts : a.token ∷ t.token ∷ [] ≡ ts = sym (a.parts ∙ ap (λ (z : List Token). a.token ∷ z) (last_one a.back (number v) t)) in
    record {
      value = Some (grammar.number t.token v.ty v.n);
      stands = subst (λ (z : List Token). IsInitial z (Some (grammar.number t.token v.ty v.n))) parts (grammar.initial (terminal_is a.token assign a.is) (terminal_is t.token (number v) t.is) spelt);
      is = refl;
    }

abbrev declaration_of : List ℕ → Option (List ℕ) → List ℕ → Option Value → Declaration
declaration_of x a ty v = record { name = x; address = a; ty = ty; initial = v }

record DeclOf (Is : List Token → Decl → Type 0) (ts : List Token) (d : Declaration) : Type 0 where
  value : Decl
  stands : Is ts value
  is : decl_meant value ≡ d

spelled_declaration : (d : Declaration) (ts : List Token) → DeclarationInRange d → DeclarationFits d → Shaped ts (declaration_line d).shapes → DeclOf IsDecl ts d
spelled_declaration d ts good fits h =
    let colon = sign (codes ":") in
    let semicolon = sign (codes ";") in
    let tail : List Shape = ended (initial_shapes d.initial) in
    let w = headed ts (name d.name) (address_shapes d.address ++ colon ∷ name d.ty ∷ tail) h in
    let r = split w.back (address_shapes d.address) (colon ∷ name d.ty ∷ tail) w.second in
    let c = headed r.back colon (name d.ty ∷ tail) r.second in
    let y = headed c.back (name d.ty) tail c.second in
    let q = split y.back (initial_shapes d.initial) (semicolon ∷ []) y.second in
    let z = headed q.back semicolon [] q.second in
    let a = spelled_address d.address r.front good.1 r.first in
    let v = spelled_initial d.initial q.front fits q.first in
    let here : Decl = record { name = grammar.word w.token; address = a.value; ty = grammar.word y.token; initial = v.value } in
    let parts : w.token ∷ (r.front ++ c.token ∷ y.token ∷ (q.front ++ z.token ∷ [])) ≡ ts
    = sym (w.parts ∙ ap (λ (l : List Token). w.token ∷ l) (r.parts ∙ ap (λ (l : List Token). r.front ++ l) (c.parts ∙ ap (λ (l : List Token). c.token ∷ l)
    (y.parts ∙ ap (λ (l : List Token). y.token ∷ l) (q.parts ∙ ap (λ (l : List Token). q.front ++ l) (last_one q.back semicolon z)))))) in
    record {
      value = here;
      stands = subst (λ (l : List Token). IsDecl l here) parts
          (grammar.decl c.token y.token z.token (terminal_is w.token (name d.name) w.is) a.stands (terminal_is c.token colon c.is) (terminal_is y.token (name d.ty) y.is) v.stands (terminal_is z.token semicolon z.is));
      is = ap (λ (l : List ℕ). declaration_of l a.value y.token.text (option_map number_meant v.value)) (text_is w.token (name d.name) w.is)
          ∙ ap (λ (l : Option (List ℕ)). declaration_of d.name l y.token.text (option_map number_meant v.value)) a.is
          ∙ ap (λ (l : List ℕ). declaration_of d.name d.address l (option_map number_meant v.value)) (text_is y.token (name d.ty) y.is)
          ∙ ap (λ (l : Option Value). declaration_of d.name d.address d.ty l) v.is;
    }

bare_shapes : (d : Declaration) → IsBare d → (declaration_line d).shapes ≡ name d.name ∷ sign (codes ":") ∷ name d.ty ∷ sign (codes ";") ∷ []
bare_shapes d bare =
    ap (λ (a : Option (List ℕ)). name d.name ∷ (address_shapes a ++ sign (codes ":") ∷ name d.ty ∷ ended (initial_shapes d.initial))) bare.0
    ∙ ap (λ (v : Option Value). name d.name ∷ sign (codes ":") ∷ name d.ty ∷ ended (initial_shapes v)) bare.1

spelled_bare : (d : Declaration) (ts : List Token) → IsBare d → Shaped ts (declaration_line d).shapes → DeclOf IsBareDecl ts d
spelled_bare d ts bare h =
    let colon = sign (codes ":") in
    let semicolon = sign (codes ";") in
    let w = headed ts (name d.name) (colon ∷ name d.ty ∷ semicolon ∷ []) (h ∙ bare_shapes d bare) in
    let c = headed w.back colon (name d.ty ∷ semicolon ∷ []) w.second in
    let y = headed c.back (name d.ty) (semicolon ∷ []) c.second in
    let z = headed y.back semicolon [] y.second in
    let here : Decl = record { name = grammar.word w.token; address = None; ty = grammar.word y.token; initial = None } in
    let parts : w.token ∷ c.token ∷ y.token ∷ z.token ∷ [] ≡ ts
    = sym (w.parts ∙ ap (λ (l : List Token). w.token ∷ l) (c.parts ∙ ap (λ (l : List Token). c.token ∷ l) (y.parts ∙ ap (λ (l : List Token). y.token ∷ l) (last_one y.back semicolon z)))) in
    record {
      value = here;
      stands = subst (λ (l : List Token). IsBareDecl l here) parts (grammar.bare_decl (terminal_is w.token (name d.name) w.is) (terminal_is c.token colon c.is) (terminal_is y.token (name d.ty) y.is) (terminal_is z.token semicolon z.is));
      is = ap (λ (l : List ℕ). declaration_of l None y.token.text None) (text_is w.token (name d.name) w.is)
          ∙ ap (λ (l : List ℕ). declaration_of d.name None l None) (text_is y.token (name d.ty) y.is)
          ∙ ap (λ (l : Option (List ℕ)). declaration_of d.name l d.ty None) (sym bare.0)
          ∙ ap (λ (l : Option Value). declaration_of d.name d.address d.ty l) (sym bare.1);
    }

record DeclsOf (Is : List Token → Decl → Type 0) (ts : List Token) (ds : List Declaration) : Type 0 where
  values : List Decl
  stand : grammar.Each Is ts values
  is : map decl_meant values ≡ ds

no_declarations : (Is : List Token → Decl → Type 0) (ts : List Token) → Shaped ts [] → DeclsOf Is ts []
no_declarations Is ts h = record { values = []; stand = subst (λ (l : List Token). grammar.Each Is l []) (sym (empty ts h)) grammar.no_more; is = refl }

more_declarations : (Is : List Token → Decl → Type 0) (front back ts : List Token) (d : Declaration) (ds : List Declaration) → ts ≡ front ++ back → DeclOf Is front d → DeclsOf Is back ds → DeclsOf Is ts (d ∷ ds)
more_declarations Is front back ts d ds parts y l = record {
  values = y.value ∷ l.values;
  stand = subst (λ (z : List Token). grammar.Each Is z (y.value ∷ l.values)) (sym parts) (grammar.also y.stands l.stand);
  is = ap (λ (z : Declaration). z ∷ map decl_meant l.values) y.is ∙ ap (λ (z : List Declaration). d ∷ z) l.is;
}

spelled_declarations : (ds : List Declaration) (ts : List Token) → Each DeclarationInRange ds → Each DeclarationFits ds → Shaped ts (shapes_of (map declaration_line ds)) → DeclsOf IsDecl ts ds
spelled_declarations [] ts good fits h = no_declarations IsDecl ts h
spelled_declarations (d ∷ ds) ts good fits h =
    let p = split ts (declaration_line d).shapes (shapes_of (map declaration_line ds)) h in
    more_declarations IsDecl p.front p.back ts d ds p.parts (spelled_declaration d p.front good.0 fits.0 p.first) (spelled_declarations ds p.back good.1 fits.1 p.second)

spelled_bares : (ds : List Declaration) (ts : List Token) → Each IsBare ds → Shaped ts (shapes_of (map declaration_line ds)) → DeclsOf IsBareDecl ts ds
spelled_bares [] ts bare h = no_declarations IsBareDecl ts h
spelled_bares (d ∷ ds) ts bare h =
    let p = split ts (declaration_line d).shapes (shapes_of (map declaration_line ds)) h in
    more_declarations IsBareDecl p.front p.back ts d ds p.parts (spelled_bare d p.front bare.0 p.first) (spelled_bares ds p.back bare.1 p.second)

-- ---- blocks

record MarkOf (ts : List Token) (m : Mark) : Type 0 where
  value : tree_mark.Mark
  stands : IsMark ts value
  is : mark_meant value ≡ m

spelled_mark : (m : Mark) (ts : List Token) → Shaped ts (mark_shapes m) → MarkOf ts m
spelled_mark Plain ts h = record { value = marks.Plain; stands = subst (λ (l : List Token). IsMark l marks.Plain) (sym (empty ts h)) grammar.plain; is = refl }
spelled_mark Constant ts h =
    let w = headed ts (word (codes "CONSTANT")) [] h in
    record { value = marks.Constant; stands = subst (λ (l : List Token). IsMark l marks.Constant) (sym (last_one ts (word (codes "CONSTANT")) w)) (grammar.constant (terminal_is w.token (word (codes "CONSTANT")) w.is)); is = refl }
spelled_mark Retain ts h =
    let w = headed ts (word (codes "RETAIN")) [] h in
    record { value = marks.Retain; stands = subst (λ (l : List Token). IsMark l marks.Retain) (sym (last_one ts (word (codes "RETAIN")) w)) (grammar.retain (terminal_is w.token (word (codes "RETAIN")) w.is)); is = refl }

abbrev block_of : Class → Mark → List Declaration → Block
block_of c m ds = record { class = c; mark = m; declarations = ds }

record BlockOf (ts : List Token) (b : Block) : Type 0 where
  value : TextBlock
  stands : IsBlock ts value
  is : block_meant value ≡ b

abbrev end_var : Shape
end_var = word (codes "END_VAR")

abbrev block_shapes : Block → List Shape
block_shapes b = word (class_word b.class) ∷ (mark_shapes b.mark ++ (shapes_of (map declaration_line b.declarations) ++ end_var ∷ []))

block_is : (b : Block) → shapes_of (block_lines b) ≡ block_shapes b
block_is b = ap (λ (z : List Shape). (word (class_word b.class) ∷ mark_shapes b.mark) ++ z) (shapes_append (map declaration_line b.declarations) (line 0 (end_var ∷ []) ∷ []))

-- a block that may have a mark
spelled_marked : (c : Class) (m : Mark) (ds : List Declaration) (tc : TextClass) (ts : List Token) → marked_class (terminal_of kind.Keyword (class_word c)) ≡ Some tc → class_meant tc ≡ c
    → Each DeclarationInRange ds → Each DeclarationFits ds → Shaped ts (block_shapes (block_of c m ds)) → BlockOf ts (block_of c m ds)
spelled_marked c m ds tc ts told same good fits h =
    let lines : List Shape = shapes_of (map declaration_line ds) in
    let f = headed ts (word (class_word c)) (mark_shapes m ++ (lines ++ end_var ∷ [])) h in
    let r = split f.back (mark_shapes m) (lines ++ end_var ∷ []) f.second in
    let q = split r.back lines (end_var ∷ []) r.second in
    let z = headed q.back end_var [] q.second in
    let k = spelled_mark m r.front r.first in
    let l = spelled_declarations ds q.front good fits q.first in
    let here : TextBlock = record { class = tc; mark = k.value; decls = l.values } in
    let parts : f.token ∷ (r.front ++ (q.front ++ z.token ∷ [])) ≡ ts
    = sym (f.parts ∙ ap (λ (y : List Token). f.token ∷ y) (r.parts ∙ ap (λ (y : List Token). r.front ++ y) (q.parts ∙ ap (λ (y : List Token). q.front ++ y) (last_one q.back end_var z)))) in
    record {
      value = here;
      stands = subst (λ (y : List Token). IsBlock y here) parts (grammar.marked z.token (ap marked_class (terminal_is f.token (word (class_word c)) f.is) ∙ told) k.stands l.stand (terminal_is z.token end_var z.is));
      is = ap (λ (y : Class). block_of y (mark_meant k.value) (map decl_meant l.values)) same ∙ ap (λ (y : Mark). block_of c y (map decl_meant l.values)) k.is ∙ ap (λ (y : List Declaration). block_of c m y) l.is;
    }

spelled_temporary : (ds : List Declaration) (ts : List Token) → Each DeclarationInRange ds → Each DeclarationFits ds → Shaped ts (block_shapes (block_of Temp Plain ds)) → BlockOf ts (block_of Temp Plain ds)
spelled_temporary ds ts good fits h =
    let first = word (codes "VAR_TEMP") in
    let lines : List Shape = shapes_of (map declaration_line ds) in
    let f = headed ts first (lines ++ end_var ∷ []) h in
    let q = split f.back lines (end_var ∷ []) f.second in
    let z = headed q.back end_var [] q.second in
    let l = spelled_declarations ds q.front good fits q.first in
    let here : TextBlock = record { class = class.Temp; mark = marks.Plain; decls = l.values } in
    let parts : f.token ∷ (q.front ++ z.token ∷ []) ≡ ts = sym (f.parts ∙ ap (λ (y : List Token). f.token ∷ y) (q.parts ∙ ap (λ (y : List Token). q.front ++ y) (last_one q.back end_var z))) in
    record {
      value = here;
      stands = subst (λ (y : List Token). IsBlock y here) parts (grammar.temporary z.token (terminal_is f.token first f.is) l.stand (terminal_is z.token end_var z.is));
      is = ap (λ (y : List Declaration). block_of Temp Plain y) l.is;
    }

spelled_in_out : (ds : List Declaration) (ts : List Token) → Each IsBare ds → Shaped ts (block_shapes (block_of InOut Plain ds)) → BlockOf ts (block_of InOut Plain ds)
spelled_in_out ds ts bare h =
    let first = word (codes "VAR_IN_OUT") in
    let lines : List Shape = shapes_of (map declaration_line ds) in
    let f = headed ts first (lines ++ end_var ∷ []) h in
    let q = split f.back lines (end_var ∷ []) f.second in
    let z = headed q.back end_var [] q.second in
    let l = spelled_bares ds q.front bare q.first in
    let here : TextBlock = record { class = class.InOut; mark = marks.Plain; decls = l.values } in
    let parts : f.token ∷ (q.front ++ z.token ∷ []) ≡ ts = sym (f.parts ∙ ap (λ (y : List Token). f.token ∷ y) (q.parts ∙ ap (λ (y : List Token). q.front ++ y) (last_one q.back end_var z))) in
    record {
      value = here;
      stands = subst (λ (y : List Token). IsBlock y here) parts (grammar.in_out z.token (terminal_is f.token first f.is) l.stand (terminal_is z.token end_var z.is));
      is = ap (λ (y : List Declaration). block_of InOut Plain y) l.is;
    }

-- where the mark is none
unmarked : (c : Class) (m : Mark) (ds : List Declaration) (ts : List Token) → m ≡ Plain → (Shaped ts (block_shapes (block_of c Plain ds)) → BlockOf ts (block_of c Plain ds)) → Shaped ts (block_shapes (block_of c m ds)) → BlockOf ts (block_of c m ds)
unmarked c m ds ts same go h = subst (λ (y : Mark). BlockOf ts (block_of c y ds)) (sym same) (go (subst (λ (y : Mark). Shaped ts (block_shapes (block_of c y ds))) same h))

spelled_block : (c : Class) (m : Mark) (ds : List Declaration) (ts : List Token) → BlockInRange (block_of c m ds) → Each DeclarationFits ds → Shaped ts (block_shapes (block_of c m ds)) → BlockOf ts (block_of c m ds)
spelled_block Local m ds ts good fits h = spelled_marked Local m ds class.Var ts refl refl good.1 fits h
spelled_block Input m ds ts good fits h = spelled_marked Input m ds class.Input ts refl refl good.1 fits h
spelled_block Output m ds ts good fits h = spelled_marked Output m ds class.Output ts refl refl good.1 fits h
spelled_block InOut m ds ts good fits h = unmarked InOut m ds ts good.0.0 (λ i. spelled_in_out ds ts good.0.1 i) h
spelled_block Temp m ds ts good fits h = unmarked Temp m ds ts good.0 (λ i. spelled_temporary ds ts good.1 fits i) h

record BlocksOf (ts : List Token) (bs : List Block) : Type 0 where
  values : List TextBlock
  stand : grammar.Each IsBlock ts values
  is : map block_meant values ≡ bs

spelled_blocks : (bs : List Block) (ts : List Token) → Each BlockInRange bs → Each BlockFits bs → Shaped ts (shapes_of (flat_map block_lines bs)) → BlocksOf ts bs
spelled_blocks [] ts good fits h = record { values = []; stand = subst (λ (l : List Token). grammar.Each IsBlock l []) (sym (empty ts h)) grammar.no_more; is = refl }
spelled_blocks (b ∷ bs) ts good fits h =
    let p = split ts (shapes_of (block_lines b)) (shapes_of (flat_map block_lines bs)) (h ∙ shapes_append (block_lines b) (flat_map block_lines bs)) in
    let y = spelled_block b.class b.mark b.declarations p.front good.0 fits.0 (p.first ∙ block_is b) in
    let l = spelled_blocks bs p.back good.1 fits.1 p.second in
    record {
      values = y.value ∷ l.values;
      stand = subst (λ (z : List Token). grammar.Each IsBlock z (y.value ∷ l.values)) (sym p.parts) (grammar.also y.stands l.stand);
      is = ap (λ (z : Block). z ∷ map block_meant l.values) y.is ∙ ap (λ (z : List Block). b ∷ z) l.is;
    }

-- ---- POUs

abbrev pou_of : PouKind → List ℕ → List Block → List Statement → meaning.PouText
pou_of k x bs ss = record { kind = k; name = x; blocks = bs; body = ss }

abbrev listed : Statements → List Statement
listed no_statement = []
listed (statement s ss) = s ∷ listed ss

listed_again : (ss : List Statement) → listed (statements ss) ≡ ss
listed_again [] = refl
listed_again (s ∷ ss) = ap (λ (z : List Statement). s ∷ z) (listed_again ss)

same_statements : (a b : List Statement) → statements a ≡ statements b → a ≡ b
same_statements a b h = sym (listed_again a) ∙ ap listed h ∙ listed_again b

pou_is : (p : meaning.PouText) → shapes_of (pou_lines p) ≡ word (pou_word p.kind) ∷ name p.name ∷ (shapes_of (flat_map block_lines p.blocks) ++ (statements_shapes (statements p.body) ++ word (pou_end p.kind) ∷ []))
pou_is p =
    let body : List Line = statements_lines 2 (statements p.body) in
    let end : List Line = line 0 (word (pou_end p.kind) ∷ []) ∷ [] in
    let blocks : List Shape = shapes_of (flat_map block_lines p.blocks) in
    ap (λ (z : List Shape). word (pou_word p.kind) ∷ name p.name ∷ z)
    (shapes_append (flat_map block_lines p.blocks) (body ++ end) ∙ ap (λ (z : List Shape). blocks ++ z) (shapes_append body end ∙ ap (λ (z : List Shape). z ++ word (pou_end p.kind) ∷ []) (statements_are 2 (statements p.body))))

record KindOf (k : PouKind) : Type 0 where
  value : TextKind
  is : kind_meant value ≡ k
  begins : terminal_of kind.Keyword (pou_word k) ≡ heading value
  ends : terminal_of kind.Keyword (pou_end k) ≡ ending value

kind_of : (k : PouKind) → KindOf k
kind_of Program = record { value = kinds.Program; is = refl; begins = refl; ends = refl }
kind_of FunctionBlock = record { value = kinds.FunctionBlock; is = refl; begins = refl; ends = refl }

record PouOf (ts : List Token) (p : meaning.PouText) (depth : ℕ) : Type 0 where
  value : PouText
  stands : IsPou ts value depth
  is : pou_meant value ≡ p

spelled_pou : (p : meaning.PouText) (ts : List Token) → PouInRange p → PouTextFits p → Shaped ts (shapes_of (pou_lines p)) → PouOf ts p (pou_depth p)
spelled_pou p ts good fits h =
    let first = word (pou_word p.kind) in
    let last = word (pou_end p.kind) in
    let lines : List Shape = shapes_of (flat_map block_lines p.blocks) in
    let body : List Shape = statements_shapes (statements p.body) in
    let f = headed ts first (name p.name ∷ (lines ++ (body ++ last ∷ []))) (h ∙ pou_is p) in
    let w = headed f.back (name p.name) (lines ++ (body ++ last ∷ [])) f.second in
    let r = split w.back lines (body ++ last ∷ []) w.second in
    let q = split r.back body (last ∷ []) r.second in
    let z = headed q.back last [] q.second in
    let k = kind_of p.kind in
    let b = spelled_blocks p.blocks r.front good.blocks fits.0 r.first in
    let l = spelled_statements (statements p.body) q.front good.body fits.1 q.first in
    let here : PouText = record { kind = k.value; name = grammar.word w.token; blocks = b.values; body = l.values } in
    let parts : f.token ∷ w.token ∷ (r.front ++ (q.front ++ z.token ∷ [])) ≡ ts
    = sym (f.parts ∙ ap (λ (y : List Token). f.token ∷ y) (w.parts ∙ ap (λ (y : List Token). w.token ∷ y) (r.parts ∙ ap (λ (y : List Token). r.front ++ y) (q.parts ∙ ap (λ (y : List Token). q.front ++ y) (last_one q.back last z))))) in
    record {
      value = here;
      stands = subst (λ (y : List Token). IsPou y here (pou_depth p)) parts
          (grammar.pou k.value z.token (terminal_is f.token first f.is ∙ k.begins) (terminal_is w.token (name p.name) w.is) b.stand l.stand (terminal_is z.token last z.is ∙ k.ends));
      is = ap (λ (y : PouKind). pou_of y w.token.text (map block_meant b.values) (map stmt_meant l.values)) k.is
          ∙ ap (λ (y : List ℕ). pou_of p.kind y (map block_meant b.values) (map stmt_meant l.values)) (text_is w.token (name p.name) w.is)
          ∙ ap (λ (y : List Block). pou_of p.kind p.name y (map stmt_meant l.values)) b.is
          ∙ ap (λ (y : List Statement). pou_of p.kind p.name p.blocks y) (same_statements (map stmt_meant l.values) p.body l.is);
    }

pub record PousOf (ts : List Token) (unit : List meaning.PouText) (depth : ℕ) : Type 0 where
  pub values : List PouText
  pub stand : ArePous ts values depth
  pub is : map pou_meant values ≡ unit

pub spelled_unit : (unit : List meaning.PouText) (ts : List Token) → Each PouInRange unit → Each PouTextFits unit → Shaped ts (shapes_of (unit_lines unit)) → PousOf ts unit (printed_depth unit)
unfolding printed_depth
spelled_unit [] ts good fits h = record { values = []; stand = subst (λ (l : List Token). ArePous l [] 0) (sym (empty ts h)) grammar.no_pou; is = refl }
spelled_unit (p ∷ unit) ts good fits h =
    let q = split ts (shapes_of (pou_lines p)) (shapes_of (unit_lines unit)) (h ∙ shapes_append (pou_lines p) (unit_lines unit)) in
    let y = spelled_pou p q.front good.0 fits.0 q.first in
    let l = spelled_unit unit q.back good.1 fits.1 q.second in
    record {
      values = y.value ∷ l.values;
      stand = subst (λ (z : List Token). ArePous z (y.value ∷ l.values) (max (pou_depth p) (printed_depth unit))) (sym q.parts) (grammar.also_pou y.stands l.stand);
      is = ap (λ (z : meaning.PouText). z ∷ map pou_meant l.values) y.is ∙ ap (λ (z : List meaning.PouText). p ∷ z) l.is;
    }
