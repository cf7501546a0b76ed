-- `collision::check_tags` meets its contract: the first tag's answer, then that of the other. Assumes nothing.
use Rattle.std.proofs.Common.{arith, ◌∙◌, sym}
use Rattle.std.proofs.lemmas.Grind.{common_steps}
use Rattle.unit.proofs.Exits.{handed_on}
use Rattle.collision.proofs.AnswerLaws.{tags_one, tags_other}
use Rattle.collision.proofs.check_tags.Goals as goal

pub returns-in_err-check_tag : goal.returns-in_err-check_tag
returns-in_err-check_tag c = handed_on c.from_residual.ensures.1 (sym (tags_one _ _ _ _ (sym c.check_tag.ensures ∙ c.in_err-check_tag.was)))

pub returns : goal.returns
returns c = c.check_tag-2.ensures ∙ sym (tags_other _ _ _ (sym c.check_tag.ensures ∙ c.in_ok-check_tag.was))
