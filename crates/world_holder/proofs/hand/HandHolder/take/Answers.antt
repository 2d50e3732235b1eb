use Rattle.std.proofs.Common.{◌≡◌, rules}
use Rattle.world_holder.proofs.Taken.{found_in_hand}
use Rattle.world_holder.proofs.hand.HandHolder.take.Goals as goal

pub returns-clause-found : goal.returns-clause-found
returns-clause-found g c =
    let e : c.unwrap.result ≡ c.args.self.now.last.value = search rules in
    found_in_hand c.args.stream c.args.self.now.last.value c.unwrap.result e c.requires.rests.sound c.requires.rests.kept
