use Rattle.page_text.proofs.TextLemmas.{text_tells}
use Rattle.page_text.proofs.laws.a_text_is_of_one_page.Goals as goal

pub returns : goal.returns
returns c = λ m n s t s_is t_is same. text_tells s t m n s_is t_is same
