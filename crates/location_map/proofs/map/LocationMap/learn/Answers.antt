use Rattle.std.proofs.Common.{◌≡◌, ◌+◌, ◌-◌, ◌++◌, length, arith, ap, ◌∙◌, vec_len}
use Rattle.location_map.proofs.KnownLemmas.{unknown, learns_known, known_up_to, length-view}
use Rattle.location_map.proofs.map.LocationMap.learn.Goals as goal
use Rattle.location_map.proofs.map.LocationMap.learn.Goals.{then-place-len, else-place-len}

pub returns : goal.returns
returns c =
    let old = c.self.inside.learned in
    let count = c.self.inside.block_count in
    let block = c.args.block in
    let all : length c.args.self.now ≡ count =
    length-view old.items c.args.self.now (vec_len old) count old.ok.0 c.self.invariant.0 c.self.view_is in
    elim c.if-place-len.branch [
      | then-place-len w ↦
          let new = w.resize.new.self in
          let items = rw w.unwrap.ensures at w.resize.ensures.items in
          let len = rw w.unwrap.ensures at w.resize.ensures.len in
          rw w.self-inside-is
          (learns_known new.items c.args.self.now (count - vec_len new) block c.args.index (omega (arith, new.ok.0))
          (ap (λ n. new.items ++ unknown (count - n)) len
          ∙ ap (λ xs. xs ++ unknown (count - (block + 1))) items
          ∙ known_up_to old.items (vec_len old) (block + 1) count old.ok.0 (omega arith) (omega arith)
          ∙ c.self.view_is))
      | else-place-len w ↦
          rw w.self-inside-is
          (learns_known old.items c.args.self.now (count - vec_len old) block c.args.index (omega (arith, old.ok.0)) c.self.view_is)
    ]
