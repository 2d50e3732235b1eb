use Rattle.script_text.proofs.GeneratedGood.{length-frames_of, keep_to_page}
use Rattle.script_text.proofs.laws.a_generated_stream_keeps_to_its_page.Goals as goal

pub returns-clause-count : goal.returns-clause-count
returns-clause-count c = length-frames_of

pub returns-clause-page : goal.returns-clause-page
returns-clause-page c = keep_to_page
