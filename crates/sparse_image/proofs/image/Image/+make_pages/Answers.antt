use Rattle.std.proofs.Common.{◌≡◌, ◌+◌, ◌<◌, [], length, refl, sym, ap, ◌∙◌, subst, arith, true}
use Rattle.std.proofs.lemmas.List.{get_or_read}
use Rattle.std.proofs.lemmas.Result.{on_ok_weaker}
use Rattle.sparse_image.specs.Image.{Tables, table_at, has_page, MakesPages}
use Rattle.sparse_image.proofs.ImageLemmas.{from_to, has_page-read, MakesPages-there, MakesPages-first, MakesPages-set, still_unmade}
use Rattle.sparse_image.proofs.image.Image.+make_pages.Goals as goal

pub returns-then-is_made-clause-ok : goal.returns-then-is_made-clause-ok
returns-then-is_made-clause-ok t c =
    let image = c.self.inside.pages.items in
    let first = c.args.first in
    let inside : first < length image = omega (arith, ap length c.self.view_is, c.requires) in
    let there : has_page c.args.self.now first ≡ true =
    ap (λ (i : Tables). has_page i first) (sym c.self.view_is)
    ∙ has_page-read image first _ (get_or_read image first _ inside c.index.ensures [])
    ∙ sym c.is_made.ensures.made ∙ c.if-is_made.true in
    on_ok_weaker c.make_pages.result (MakesPages-there c.args.self.now c.make_pages.new.self first c.args.end (omega arith) there)
    c.make_pages.ensures.ok

pub returns-clause-ok : goal.returns-clause-ok
returns-clause-ok t c =
    let image = c.self.inside.pages.items in
    let first = c.args.first in
    let later = c.self-2.inside.pages.items in
    let inside : first < length image = omega (arith, ap length c.self.view_is, c.requires) in
    let none : table_at c.args.self.now first ≡ [] =
    ap (λ (i : Tables). table_at i first) (sym c.self.view_is)
    ∙ sym (get_or_read image first _ inside c.index.ensures []) ∙ c.is_made.ensures.unmade c.if-is_made.false in
    let makes : MakesPages c.args.self.now later (from_to (first + 1) c.args.end) =
    subst (λ (i : Tables). MakesPages c.args.self.now i (from_to (first + 1) c.args.end)) (sym c.self-2.view_is)
    c.in_ok-make_pages.ensures.ok in
    MakesPages-first c.args.self.now later _ first c.args.end (omega arith) makes
    (MakesPages-set later first 512 _ (omega (arith, makes.count, c.requires)) c.in_ok-table.ensures refl
    (still_unmade c.args.self.now later first c.args.end makes c.self-2.invariant none))
