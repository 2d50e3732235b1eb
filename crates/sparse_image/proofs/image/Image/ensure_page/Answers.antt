use Rattle.std.proofs.Common.{◌<◌, eqb, [], length, set, subst, refl, sym, ap, ◌∙◌, arith}
use Rattle.std.proofs.lemmas.List.{get_or_read}
use Rattle.sparse_image.specs.Disk.{disk_of}
use Rattle.sparse_image.specs.Image.{MakesPages}
use Rattle.sparse_image.proofs.DiskLemmas.{disk_of-same}
use Rattle.sparse_image.proofs.ImageLemmas.{has_page-read, MakesPages-set, MakesPages-made}
use Rattle.sparse_image.proofs.image.Image.ensure_page.Goals as goal

-- what the call does to the fields, where the page was not made
makes : (c : goal.After-drop-index_mut) → MakesPages c.self.inside.pages.items
    (set c.self.inside.pages.items c.args.page c.in_ok-self-inside.field-0) (λ p. eqb p c.args.page)
makes c =
    let image = c.self.inside.pages.items in
    let page = c.args.page in
    let inside : page < length image = omega (arith, ap length c.self.view_is) in
    let none = sym (get_or_read image page _ inside c.index.ensures []) ∙ c.is_made.ensures.unmade c.if-not-is_made.true in
    MakesPages-set image page 512 _ inside c.in_ok-self-inside.ensures refl none

pub returns-in_ok-self-inside-clause-ok : goal.returns-in_ok-self-inside-clause-ok
returns-in_ok-self-inside-clause-ok c =
    subst (λ i. MakesPages i (set c.self.inside.pages.items c.args.page c.in_ok-self-inside.field-0) (λ p. eqb p c.args.page))
    c.self.view_is
    (makes c)

pub returns-in_ok-self-inside-clause-disk : goal.returns-in_ok-self-inside-clause-disk
returns-in_ok-self-inside-clause-disk c =
    disk_of-same _ _ (makes c).count (makes c).blocks ∙ ap disk_of c.self.view_is

pub returns-else-not-is_made-clause-ok : goal.returns-else-not-is_made-clause-ok
returns-else-not-is_made-clause-ok c =
    let image = c.self.inside.pages.items in
    let page = c.args.page in
    let inside : page < length image = omega (arith, ap length c.self.view_is) in
    subst (λ i. MakesPages i i (λ p. eqb p page)) c.self.view_is
    (MakesPages-made image page (has_page-read image page _ (get_or_read image page _ inside c.index.ensures [])
    ∙ sym c.is_made.ensures.made ∙ c.if-not-is_made.false))
