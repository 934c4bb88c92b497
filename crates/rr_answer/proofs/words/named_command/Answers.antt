use Rattle.std.proofs.Common.{refl}
use Rattle.rr_answer.proofs.words.named_command.Goals as goal

pub returns-in-equal : goal.returns-in-equal
returns-in-equal c = rw c.in-equal.is c.with_two.ensures

pub returns-in-within : goal.returns-in-within
returns-in-within c = rw c.in-within.is c.with_two-in-within.ensures

pub returns-in-disjoint : goal.returns-in-disjoint
returns-in-disjoint c = rw c.in-disjoint.is c.with_two-in-disjoint.ensures

pub returns-in-canon : goal.returns-in-canon
returns-in-canon c = rw c.in-canon.is c.with_days.ensures

pub returns-in-canon1 : goal.returns-in-canon1
returns-in-canon1 c = rw c.in-canon1.is c.with_days-in-canon1.ensures

pub returns-in-translate : goal.returns-in-translate
returns-in-translate c = rw c.in-translate.is c.translate_command.ensures

pub returns-in-split : goal.returns-in-split
returns-in-split c = rw c.in-split.is c.split_command.ensures

pub returns-in-infer : goal.returns-in-infer
returns-in-infer c = rw c.in-infer.is c.with_series.ensures

pub returns-in-list : goal.returns-in-list
returns-in-list c = rw c.in-list.is c.list_command.ensures

pub returns-in-check : goal.returns-in-check
returns-in-check c = rw c.in-check.is c.with_series-in-check.ensures

pub returns-in-drill : goal.returns-in-drill
returns-in-drill c = rw c.in-drill.is c.drill_command.ensures

pub returns-in-union : goal.returns-in-union
returns-in-union c = rw c.in-union.is c.with_two-in-union.ensures

pub returns-in-common : goal.returns-in-common
returns-in-common c = rw c.in-common.is c.with_two-in-common.ensures

pub returns-in-minus : goal.returns-in-minus
returns-in-minus c = rw c.in-minus.is c.with_two-in-minus.ensures

pub returns-in-clear : goal.returns-in-clear
returns-in-clear c = rw c.in-clear.is c.clear_command.ensures

pub returns-in-nth : goal.returns-in-nth
returns-in-nth c = rw c.in-nth.is c.nth_command.ensures

pub returns-in-rank : goal.returns-in-rank
returns-in-rank c = rw c.in-rank.is c.rank_command.ensures

pub returns-in-from : goal.returns-in-from
returns-in-from c = rw c.in-from.is c.from_command.ensures

pub returns-in-between : goal.returns-in-between
returns-in-between c = rw c.in-between.is c.between_command.ensures

pub returns-in-differences : goal.returns-in-differences
returns-in-differences c = rw c.in-differences.is c.differences_command.ensures

pub returns-in-help : goal.returns-in-help
returns-in-help c =
    rw (c.in-help.is, c.page_command.ensures, c.help_page.ensures) refl

pub returns-in-text : goal.returns-in-text
returns-in-text c =
    rw (c.in-text.is, c.page_command-in-text.ensures, c.help_page-in-text.ensures) refl

pub returns-in-version : goal.returns-in-version
returns-in-version c =
    rw (c.in-version.is, c.page_command-in-version.ensures, c.version_page.ensures) refl

pub returns-in-explain : goal.returns-in-explain
returns-in-explain c =
    rw (c.in-explain.is, c.page_command-in-explain.ensures, c.explain_page.ensures) refl
