-- Nothing but want of memory stands against reading the file.
use Rattle.std.proofs.Common.{◌≡◌, List, ℕ, sym, ap, subst, ◌∙◌}
use Rattle.plcx_xml.specs.Faults.{Fails}
use Rattle.plcx_xml.specs.StandsForTree.{IsTreeOf}
use Rattle.plcx_xml.specs.declared.error.XmlError.{XmlError}
use Rattle.plcx_xml.specs.declared.error.XmlError.TheVariants as xml
use Rattle.plcx_xml.specs.declared.tree.Element.{Element}
use Rattle.plcx_xml.specs.declared.tree.Node.{Node, out-Node, out-roll-Node}
use Rattle.plcx_xml.specs.declared.tree.Node.TheOpen.{Node-F}
use Rattle.plcx_xml.specs.declared.tree.Node.TheVariants as node
use Rattle.plcx_xml.specs.declared.tree.Node.TheVariants.{rolls-Element}
use Rattle.plcx_xml.proofs.OneFile.{no-tree}
use Rattle.plcx_xml.proofs.OneTree.{tree-one}
use Rattle.plcx_model.specs.declared.project.Project.{Project}
use Rattle.plcx_profile.specs.Profile.{StandsForRoot}
use Rattle.plcx_bench_project.specs.Bench.{IsMeasured, IsBench}
use Rattle.plcx_bench_file.specs.File.{bench_bytes, bench_root}
use Rattle.plcx_bench_file.specs.Unbroken.{IsUnbroken}
use Rattle.plcx_bench_file.proofs.Ring.{bench-tree}
use Rattle.plcx_bench_file.proofs.Kept.{bench-stands, bench-verdict}

-- bytes that stand for a tree have no fault
pub memory-only : (bytes : List ℕ) (e : XmlError) (root : Element) → IsTreeOf bytes root → Fails bytes e → e ≡ xml.NoMemory
memory-only bytes (xml.NotUtf8 at) root t f = absurd (no-tree bytes (xml.NotUtf8 at) root (λ p. cc) f t)
memory-only bytes (xml.Token at) root t f = absurd (no-tree bytes (xml.Token at) root (λ p. cc) f t)
memory-only bytes (xml.Nesting at) root t f = absurd (no-tree bytes (xml.Nesting at) root (λ p. cc) f t)
memory-only bytes (xml.TooDeep at) root t f = absurd (no-tree bytes (xml.TooDeep at) root (λ p. cc) f t)
memory-only bytes xml.NoMemory root t f = cc

pub bytes-tree : (n : ℕ) (bytes : List ℕ) → IsMeasured n → bytes ≡ bench_bytes n → IsTreeOf bytes (bench_root n)
bytes-tree n bytes m e = subst (λ (bs : List ℕ). IsTreeOf bs (bench_root n)) (sym e) (bench-tree n m)

opened : (t : Node) (e : Element) → t ≡ node.Element e → out-Node t ≡ Node-F.Element e
opened t e h = ap out-Node (h ∙ sym (rolls-Element _)) ∙ out-roll-Node (Node-F.Element e)

-- the tree that was read is the one that the bytes stand for
abbrev IsReadFrom : List ℕ → Node → Type 0
IsReadFrom bytes t = (e : Element) × (t ≡ node.Element e) × IsTreeOf bytes e

root-is : (n : ℕ) (bytes : List ℕ) (t : Node) → IsMeasured n → bytes ≡ bench_bytes n → IsReadFrom bytes t → out-Node t ≡ Node-F.Element (bench_root n)
root-is n bytes t m e r = opened t r.0 r.1 ∙ ap (λ (x : Element). Node-F.Element x) (tree-one bytes r.0 (bench_root n) r.2.stands (bytes-tree n bytes m e).stands)

pub tree-unbroken : (n : ℕ) (bytes : List ℕ) (t : Node) → IsMeasured n → bytes ≡ bench_bytes n → IsReadFrom bytes t → IsUnbroken (out-Node t)
tree-unbroken n bytes t m e r = subst IsUnbroken (sym (root-is n bytes t m e r)) (bench-verdict n m)

pub project-bench : (n : ℕ) (bytes : List ℕ) (t : Node) (project : Project) → IsMeasured n → bytes ≡ bench_bytes n → IsReadFrom bytes t → StandsForRoot (out-Node t) project → IsBench n project
project-bench n bytes t project m e r h = bench-stands n m project (subst (λ (x : Node-F Node Element). StandsForRoot x project) (root-is n bytes t m e r) h)
