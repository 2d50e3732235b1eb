use Rattle.std.proofs.Common.{◌≡◌, ℕ, List, sym, subst, ◌∙◌}
use Rattle.std.specs.Prelude.{Option, IfSome, true}
use Rattle.replica_node.specs.Node.{Node}
use Rattle.replica_node.specs.Fold.{tree_of}
use Rattle.layer_pages.specs.Chains.{is_over}
use Rattle.layer_pages.specs.Pages.{ArePagesAbove, OthersReadAsBase}
use Rattle.backup_make.specs.declared.giver.Pages.TheVariants as found
use Rattle.open_calls.specs.Calls.{node_at}
use Rattle.volume_core.specs.State.{State, state_of, told_of}
use Rattle.volume_backup.specs.Answers.{base_of, AsksAbove}
use Rattle.volume_backup.proofs.Worlds.{tells, kept}
use Rattle.volume_backup.proofs.Covers.{over_base, covered}
use Rattle.volume_backup.proofs.pages.pages_of.Goals as goal

pub list_above-requires-clause-kept : goal.list_above-requires-clause-kept
list_above-requires-clause-kept c = kept (state_of c.args.world.now) c.args.replica c.requires.sound c.requires.read
    c.args.name.now c.requires.calm c.requires.live

pub list_above-requires-clause-over : goal.list_above-requires-clause-over
list_above-requires-clause-over c =
    let s : State = state_of c.args.world.now in
    let n : Node = node_at s.nodes c.args.replica in
    let told = tells s c.args.replica c.requires.sound c.requires.read c.args.name.now c.requires.calm c.requires.live in
    subst (λ (o : Option (List ℕ)). IfSome o (λ b. is_over (tree_of n) c.args.name.now b ≡ true))
    (sym c.base_of-above.ensures) (over_base (told_of s).volume n c.args.name.now c.args.base.now told)

pub returns-in-Some-clause-ok : goal.returns-in-Some-clause-ok
returns-in-Some-clause-ok c =
    let n : Node = node_at c.args.world.now.nodes.items c.args.replica in
    let name : List ℕ = c.args.name.now in
    subst (λ (o : Option (List ℕ)). AsksAbove n name o (found.Above c.in_ok-pages.pages)) (sym c.in-Some.is ∙ c.base_of-above.ensures)
    (subst (λ (o : Option (List ℕ)). ArePagesAbove n name o c.in_ok-pages.pages.items) c.in-Some.is c.in_ok-pages.ensures.ok)

pub returns-in-Some-clause-covers : goal.returns-in-Some-clause-covers
returns-in-Some-clause-covers c =
    let s : State = state_of c.args.world.now in
    let name : List ℕ = c.args.name.now in
    covered s c.args.replica c.requires.sound c.requires.read c.requires.calm name c.requires.live c.args.base.now
    (found.Above c.in_ok-pages.pages) (returns-in-Some-clause-ok c)
    (subst (λ (o : Option (List ℕ)). OthersReadAsBase (node_at s.nodes c.args.replica) name o c.in_ok-pages.pages.items)
    c.base_of-above.ensures c.in_ok-pages.ensures.others)

pub returns-in-None-clause-covers : goal.returns-in-None-clause-covers
returns-in-None-clause-covers c =
    let s : State = state_of c.args.world.now in
    let n : Node = node_at s.nodes c.args.replica in
    let name : List ℕ = c.args.name.now in
    let asks : AsksAbove n name (base_of (told_of s).volume name c.args.base.now) (found.All c.in_ok-pages.pages) =
    subst (λ (o : Option (List ℕ)). AsksAbove n name o (found.All c.in_ok-pages.pages)) (sym c.in-None.is ∙ c.base_of-above.ensures)
    (subst (λ (o : Option (List ℕ)). ArePagesAbove n name o c.in_ok-pages.pages.items) c.in-None.is c.in_ok-pages.ensures.ok) in
    covered s c.args.replica c.requires.sound c.requires.read c.requires.calm name c.requires.live c.args.base.now
    (found.All c.in_ok-pages.pages) asks
    (subst (λ (o : Option (List ℕ)). OthersReadAsBase n name o c.in_ok-pages.pages.items)
    c.base_of-above.ensures c.in_ok-pages.ensures.others)
