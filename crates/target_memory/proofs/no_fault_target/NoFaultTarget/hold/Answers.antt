use Rattle.std.proofs.Common.{subst, string_bytes, Some}
use Rattle.std.proofs.lemmas.Map.Text.{btree_map_updates_text}
use Rattle.target_traits.specs.Objects.{ObjectBecomes}
use Rattle.target_memory.specs.Kept.{objects_in}
use Rattle.target_memory.proofs.ObjectLemmas.{becomes}
use Rattle.target_memory.proofs.no_fault_target.NoFaultTarget.hold.Goals as goal

pub returns-clause-ok : goal.returns-clause-ok
returns-clause-ok c =
    let old = c.args.self.now.objects in
    let new = c.insert.new.self in
    let key = string_bytes c.in_ok-name.name in
    subst (λ k. ObjectBecomes k (Some c.args.bytes.now) (objects_in old) (objects_in new)) c.in_ok-name.ensures.ok
    (subst (λ v. ObjectBecomes key (Some v) (objects_in old) (objects_in new)) c.in_ok-bytes.ensures.items
    (becomes key old new (Some c.in_ok-bytes.bytes) (btree_map_updates_text key old new _ c.in_ok-insert.ensures.updates)))
