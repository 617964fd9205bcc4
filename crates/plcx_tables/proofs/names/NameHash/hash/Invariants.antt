use Rattle.std.proofs.Common.{◌≡◌, drop, fold}
use Rattle.std.specs.Hash as fed
use Rattle.std.specs.List.{flat_map}
use Rattle.plcx_types.specs.Name.{in_lower_case}
use Rattle.plcx_tables.proofs.names.NameHash.hash.Given as goal

-- what is left is written behind what was
abbrev pub invariant-loop-byte : goal.invariant-loop-byte
invariant-loop-byte g l =
    fold g.H.Hasher.write l.state (flat_map fed.u8 (in_lower_case (drop l.byte-index l.byte-items))) ≡ fold g.H.Hasher.write l.initial.state (flat_map fed.u8 (in_lower_case l.byte-items))
