use Rattle.std.proofs.Common.{◌*◌, ap, arith}
use Rattle.open_rebuild.proofs.PlaceLemmas.{page_within}
use Rattle.open_rebuild.proofs.rebuilding.Rebuilding.place_of.Goals as goal

pub overflow_mul-result : goal.overflow_mul-result
overflow_mul-result c =
    let room = page_within c.args.self.now.frozen c.args.layer.now c.args.self.now.pages c.args.page c.requires.layer c.requires.page in
    grind (arith, room, ap (λ n. n * c.args.self.now.pages) c.place.ensures, c.requires.bits, c.count-count.ensures, c.count-count.type_inv)

pub overflow_add-result : goal.overflow_add-result
overflow_add-result c =
    let room = page_within c.args.self.now.frozen c.args.layer.now c.args.self.now.pages c.args.page c.requires.layer c.requires.page in
    grind (arith, room, ap (λ n. n * c.args.self.now.pages) c.place.ensures, c.requires.bits, c.count-count.ensures, c.count-count.type_inv)

pub returns-clause-within : goal.returns-clause-within
returns-clause-within c =
    let room = page_within c.args.self.now.frozen c.args.layer.now c.args.self.now.pages c.args.page c.requires.layer c.requires.page in
    omega (arith, room, ap (λ n. n * c.args.self.now.pages) c.place.ensures, c.requires.bits)
