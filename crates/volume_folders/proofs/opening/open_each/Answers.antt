use Rattle.std.proofs.Common.{rules, ◌+◌, ◌∙◌, ap, subst, [], ◌∷◌, ◌≡◌, length, length-append}
use Rattle.std.specs.Option.{option_copied, option_map}
use Rattle.open_calls.specs.Calls.{node_at}
use Rattle.volume_folders.proofs.StepLemmas.{IsTurn, told_turn, known_turn, heads_turn}
use Rattle.volume_folders.proofs.opening.open_each.Goals as goal

pub loop-shelf-preserved : goal.loop-shelf-preserved
loop-shelf-preserved g c =
    let old = g.S.Shelves.holds c.args.shelves.now in
    let now = g.S.Shelves.holds c.loop-shelf.shelves in
    let size = c.args.size in
    let count = c.loop-shelf.shelf in
    let inv = c.loop-shelf.invariant in
    let nodes = c.loop-shelf.nodes.items in
    let new_nodes = c.push.new.self.items in
    let heads = c.loop-shelf.heads.items in
    let new_heads = c.push-in-loop-shelf.new.self.items in
    let reasons = c.loop-shelf.reasons.items in
    let new_reasons = c.push-in-loop-shelf-2.new.self.items in
    let source = c.loop-shelf.source in
    let after = c.source_after-source.result in
    let disk = option_copied c.disk_of-disk.result in
    let node = c.in_ok-node.node in
    let head = c.in_ok-node.head in
    let why = c.in_ok-node.why in
    let turn : IsTurn count nodes new_nodes reasons new_reasons source after disk node why = record {
      nodes_are = c.in_ok-push.ensures.items;
      reasons_are = c.in_ok-push-3.ensures.items;
      source_is = c.source_after-source.ensures;
      disk_is = subst (λ ns. disk ≡ option_map (node_at ns) source) c.deref.ensures.value c.disk_of-disk.ensures;
    } in
    record {
      told = told_turn old now size count nodes new_nodes reasons new_reasons source after disk node why turn inv.same inv.known inv.told
          c.in_ok-node.ensures.found;
      known = known_turn size count nodes new_nodes reasons new_reasons source after disk node why turn inv.known
          c.in_ok-node.ensures.known;
      heads = heads_turn old now count reasons new_reasons heads new_heads why head turn.reasons_are c.in_ok-push-2.ensures.items
          inv.same inv.known.as_many inv.many inv.heads c.in_ok-node.ensures.head;
      many = ap (λ l. length l) c.in_ok-push-2.ensures.items ∙ length-append heads (head ∷ []) ∙ ap (λ n. n + 1) inv.many;
      same = search rules;
      faults = search rules;
    }
