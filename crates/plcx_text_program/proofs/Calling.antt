-- What instances call.
use Rattle.std.proofs.Common.{◌≡◌, ℕ, true, List, [], ◌∷◌, Option, Some, None, map, option_map, slice_get, refl, sym, ap, ap₂, ◌∙◌}
use Rattle.std.specs.Prelude.{MatchOption}
use Rattle.plcx_types.specs.Name.{in_lower_case}
use Rattle.plcx_std.specs.declared.kind.StdKind.{StdKind}
use Rattle.plcx_std.specs.declared.kind.StdKind.TheVariants as kind
use Rattle.plcx_std.specs.Kind.{kind_named}
use Rattle.plcx_meaning.specs.Base.{are_distinct}
use Rattle.plcx_meaning.specs.Tree.{PouText}
use Rattle.plcx_meaning.specs.Layout.{Variable, variables_of, variable_named}
use Rattle.plcx_meaning.specs.Layout as layout
use Rattle.plcx_meaning.specs.Execute.{world_of}
use Rattle.plcx_conditions.proofs.Worlds.{pou_names}
use Rattle.plcx_known.specs.declared.types.VarType.TheVariants as type
use Rattle.plcx_known.specs.Types.{variables_in, parts_of}
use Rattle.plcx_numbered.specs.Numbers.{in_out_names}
use Rattle.plcx_text_numbered.specs.Numbers.{leaf_number, place_named}
use Rattle.plcx_text_pieces.specs.Called.{Callee, Block, User, callee_by, callee_found}
use Rattle.plcx_text_order.specs.Made.{owner}
use Rattle.plcx_text_tables.specs.Tabled.{Numbered, Shown, number_named}
use Rattle.plcx_text_tables.specs.Laws.{AreFound, IsTableOf}
use Rattle.plcx_text_program.specs.Told.{in_outs_or, IsTableAt, called_by, called}
use Rattle.plcx_text_program.proofs.Naming.{parts_are, found_there}
use Rattle.plcx_text_program.proofs.Leading.{inner_leaf}

-- ---- in-outs

pub no_in_outs : (unit : List PouText) (k : StdKind) → [] ≡ in_out_names (parts_of unit (type.Standard k))
no_in_outs unit kind.Ton = refl
no_in_outs unit kind.Tof = refl
no_in_outs unit kind.Tp = refl
no_in_outs unit kind.Ctu = refl
no_in_outs unit kind.Ctd = refl
no_in_outs unit kind.Ctud = refl
no_in_outs unit kind.Sr = refl
no_in_outs unit kind.Rs = refl
no_in_outs unit kind.RTrig = refl
no_in_outs unit kind.FTrig = refl

map_twice : {X Y Z : Type 0} (f : X → Y) (g : Y → Z) (xs : List X) → map (λ x. g (f x)) xs ≡ map g (map f xs)
map_twice f g [] = refl
map_twice f g (x ∷ xs) = ap (λ ys. g (f x) ∷ ys) (map_twice f g xs)

-- the names of the in-outs of the table that is found
pub in_outs_there : {X Y : Type 0} (unit : List PouText) (place : ℕ) (show : X → Shown) (name : Y → List ℕ) (o : Option X) (names : List Y)
    → map name names ≡ in_outs_or (option_map show o) → MatchOption o (slice_get unit place ≡ None) (λ t. IsTableAt unit place (show t))
    → map (λ s. in_lower_case (name s)) names ≡ in_out_names (variables_in (slice_get unit place))
in_outs_there unit place show name None names e none =
    map_twice name in_lower_case names ∙ ap (map in_lower_case) e ∙ ap (λ o. in_out_names (variables_in o)) (sym none)
in_outs_there unit place show name (Some t) names e at =
    map_twice name in_lower_case names ∙ ap (map in_lower_case) e ∙ at.table.in_outs ∙ ap (λ o. in_out_names (variables_in o)) (sym at.there)

-- ---- callees

module _ (unit : List PouText) (distinct : are_distinct (pou_names unit) ≡ true) (place : ℕ) (q : PouText) (t : Shown) (is : IsTableOf unit q t) (instance : List ℕ) where
  abbrev own : Option Variable
  own = variable_named (in_lower_case instance) (variables_of q.blocks)

  abbrev leaf : ℕ
  leaf = leaf_number unit (in_lower_case instance) (variables_of q.blocks)

  abbrev user : List ℕ → List (List ℕ) → Option StdKind → Callee
  user type in_outs o = elim o [ Some k ↦ Block k leaf | None ↦ User (place_named type unit) leaf in_outs ]

  pub callee_is : (n : Option Numbered) → n ≡ number_named t instance → called unit n ≡ callee_found (owner unit place q) instance own
  callee_is None e = by own (found_there unit distinct q t is instance None e)
    where
      by : (v : Option Variable) → AreFound unit None v → Block kind.Ton 0 ≡ callee_found (owner unit place q) instance v
      by None f = refl
      by (Some v) f = absurd f
  callee_is (Some n) e = by own refl (found_there unit distinct q t is instance (Some n) e)
    where
      by_kind : (v : Variable) → own ≡ Some v → AreFound unit (Some n) (Some v) → (k : Option StdKind) → called_by unit n k ≡ callee_by (owner unit place q) instance v.ty leaf k
      by_kind v there f (Some k) = ap (Block k) (inner_leaf unit distinct q t is instance instance n e)
      by_kind v there f None =
          ap₂ (λ (x : List ℕ) (l : ℕ). User (place_named x unit) l (in_out_names (parts_of unit n.type))) f.named (inner_leaf unit distinct q t is instance instance n e)
          ∙ ap (λ (vs : List Variable). User (place_named v.ty unit) leaf (in_out_names vs))
          (ap (parts_of unit) f.type ∙ sym (parts_are unit distinct v.ty) ∙ ap (layout.parts_of (world_of unit)) (sym there))

      by : (v : Option Variable) → own ≡ v → AreFound unit (Some n) v → called unit (Some n) ≡ callee_found (owner unit place q) instance v
      by None there f = absurd f
      by (Some v) there f = ap (λ x. called_by unit n (kind_named x)) f.named ∙ by_kind v there f (kind_named v.ty)
