-- A page comes into the target and is listed: the invariant stays.
use Rattle.std.proofs.Common.{◌≡◌, ℕ, [], length, length-set, sym, ap, subst, ◌∙◌, arith, append-nil}
use Rattle.std.specs.Prelude.{Some}
use Rattle.vol_units.specs.declared.page_ref.PageRef.{PageRef}
use Rattle.sparse_image.specs.Image.{Table}
use Rattle.replica_node.specs.Node.{Node}
use Rattle.replica_node.specs.Held.{IsPageOf, PutsPage}
use Rattle.open_calls.specs.Calls.{node_at}
use Rattle.open_calls.specs.Due.{due}
use Rattle.open_calls.proofs.Forms.{length-forms}
use Rattle.open_rebuild.specs.declared.rebuilding.Rebuilding.{Rebuilding}
use Rattle.open_rebuild.specs.Claim.{IsRebuilding}
use Rattle.open_rebuild.proofs.PageSteps.{page_kept}
use Rattle.open_rebuild.proofs.ShownSteps.{page_clients, page_whole, page_maint}
use Rattle.volume_core.specs.State.{State, opening_of, told_of, modes_in, gave_up_at}
use Rattle.volume_core.specs.Sound.{IsSound, IsOrdered, AreAdds, owed_end}
use Rattle.volume_core.specs.Streams.{running, turning, MayGo, origin_of}
use Rattle.volume_rebuild.specs.Places.{IsToCopy}
use Rattle.volume_rebuild.specs.Steps.{copied_to}

module _ (s : State) (b : Rebuilding) (page : PageRef) (after : Node) (table : Table) (ok : IsSound s)
    (is : IsToCopy s b page) (puts : PutsPage (node_at s.nodes b.target) after page.layer page.page table) where
  abbrev next : State
  next = copied_to s b page after

  begun : IsRebuilding s.size (modes_in s) s.tickets s.calls s.whole s.nodes (Some b)
  begun = subst (λ x. IsRebuilding s.size (modes_in s) s.tickets s.calls s.whole s.nodes x) is.begun ok.rebuild

  adds : AreAdds s.maint s.commands (Some b) s.ended
  adds = subst (λ x. AreAdds s.maint s.commands x s.ended) is.begun ok.adds

  ordered : IsOrdered (opening_of s) s.book.entries s.indices (Some b) s.ended
  ordered = subst (λ x. IsOrdered (opening_of s) s.book.entries s.indices x s.ended) is.begun ok.on.told.ordered

  many : length (modes_in s) ≡ length s.nodes
  many = omega (arith, ok.on.clients.agree.as_many, length-forms s.whole s.nodes)

  pub copied_kept : IsPageOf (node_at s.nodes b.source) page.layer page.page table → IsSound next
  copied_kept out =
      let may = is.left.frozen.may in
      let there = is.left.frozen.layer in
      record {
        on = record {
          opened = ok.on.opened;
          told = record {
            legal = ok.on.told.legal;
            ordered = record {
              rise = ordered.rise;
              order = ordered.order;
              index = ordered.index;
              few = ordered.few;
              own =
                  ordered.own;
              rebuild = ordered.rebuild;
            };
          };
          clients = page_clients s.size (modes_in s) s.tickets s.calls s.whole s.nodes b after page.layer page.page table
              many may there puts begun (due s.whole (told_of s).volume) (length s.indices) s.book.entries ok.on.clients;
          spare = omega (arith, ok.on.spare, ap owed_end is.begun);
          spare_data = ok.on.spare_data;
        };
        whole = page_whole s.size (modes_in s) s.tickets s.calls s.whole s.nodes b after page.layer page.page table many may
            there puts begun (told_of s) ok.whole;
        maint = page_maint s.size (modes_in s) s.tickets s.calls s.whole s.nodes b after page.layer page.page table many may
            there puts begun (told_of s).volume.snapshots (length s.indices) s.book.entries s.maint s.commands ok.maint;
        disk = ok.disk;
        rebuild = page_kept s.size (modes_in s) s.tickets s.calls s.whole s.nodes b after page.layer page.page table many
            may there puts begun is.left.frozen.page out;
        adds = record { of_begun = adds.of_begun; of_ended = adds.of_ended; one = adds.one };
        caused = ok.caused;
        streams = ok.streams;
      }

-- ---- what other streams see

pub copied_goes : (s s2 : State) (b : Rebuilding) (page : PageRef) (after : Node) (stream : ℕ) → IsSound s2
    → s2 ≡ copied_to s b page after → MayGo stream s s2
copied_goes s s2 b page after stream ok2 is = record {
  sound = ok2;
  origin = ap origin_of is
      ∙ ap (λ k. record { first = s.first; opening = s.book.opening; size = s.size; streams = length s.indices; replicas = k })
      (length-set s.nodes b.target after);
  added = ([], ap (λ (x : State). x.book.entries) is ∙ sym (append-nil s.book.entries), tt);
  others = λ n other. ap (λ (x : State). running x n) is;
  turns = λ n other. ap (λ (x : State). turning x n) is;
  gave_up = λ n other. ap (λ (x : State). gave_up_at x.gave_up n) is;
  removes = λ m other turn name. tt;
}
