-- What the form of a file gives to its draft.
use Rattle.std.proofs.Common.{◌≡◌, ℕ, ◌≤◌, true, false, List, [], length}
use Rattle.std.specs.List.{sum_by}
use Rattle.plcx_types.specs.Address.{AddressFits}
use Rattle.plcx_types.specs.Lists.{Each}
use Rattle.plcx_types.specs.Limits.{max_variables}
use Rattle.plcx_model.specs.Sound.{BodyIsSound}
use Rattle.plcx_model.specs.declared.project.PouKind.{PouKind}
use Rattle.plcx_model.specs.declared.project.PouKind.TheVariants.{Program}
use Rattle.plcx_model.specs.declared.project.ListClass.TheVariants.{InOut}
use Rattle.plcx_draft.specs.BodyIn.{nonempty}
use Rattle.plcx_draft.specs.declared.draft.DraftVariable.{DraftVariable}
use Rattle.plcx_draft.specs.declared.draft.DraftList.{DraftList}
use Rattle.plcx_draft.specs.declared.draft.DraftPou.{DraftPou}

abbrev pub HasAddress : DraftVariable → Type 0
HasAddress v = AddressFits (nonempty v.address)

pub record FormedList (kind : PouKind) (list : DraftList) : Type 0 where
  pub addresses : Each HasAddress list.variables
  pub marks : list.constant ≡ true → list.retain ≡ false
  pub in_out_marks : list.class ≡ InOut → (list.constant ≡ false) × (list.retain ≡ false)
  pub in_outs : list.class ≡ InOut → kind ≡ Program → list.variables ≡ []

abbrev pub declared_variables : List DraftList → ℕ
declared_variables lists = sum_by (λ (list : DraftList). length list.variables) lists

pub record FormedPou (p : DraftPou) : Type 0 where
  pub lists : Each (FormedList p.kind) p.lists
  pub variables : declared_variables p.lists ≤ max_variables
  pub body : BodyIsSound p.body
