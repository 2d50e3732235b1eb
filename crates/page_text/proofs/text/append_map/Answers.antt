use Rattle.std.proofs.Common.{rules, refl, ◌∷◌, []}
use Rattle.page_text.specs.Text.{map_byte}
use Rattle.page_text.proofs.TextLemmas.{joined_init, joined_step, length-joined}
use Rattle.page_text.proofs.text.append_map.Goals as goal

pub loop-byte-init : goal.loop-byte-init
loop-byte-init c = record {
  spelled = joined_init _ _;
  long = search rules;
  room = search rules;
}

pub loop-byte-preserved : goal.loop-byte-preserved
loop-byte-preserved c = record {
  spelled = joined_step (λ byte. map_byte c.args.page.now byte ∷ []) _ _ _ _ c.loop-byte.invariant.spelled (search rules);
  long = search rules;
  room = search rules;
}

pub returns-clause-few : goal.returns-clause-few
returns-clause-few c = length-joined (λ byte. map_byte c.args.page.now byte ∷ []) 64 1 (λ i. refl)
