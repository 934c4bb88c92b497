use Rattle.std.proofs.Common.{◌≡◌, ◌∙◌, to_z-of_z}
use Rattle.rr_expand.specs.Years.{mask_key}
use Rattle.rr_expand.proofs.KeptMaskLemmas.{year_near, masks_more}
use Rattle.rr_expand.proofs.allowed_days.mask_of.Goals as goal

pub mask_key-requires : goal.mask_key-requires
mask_key-requires c = rw (to_z-of_z c.ranges.year) (year_near c.args.year c.requires.first)

pub returns-clause-kept : goal.returns-clause-kept
returns-clause-kept c =
    let year = to_z-of_z c.ranges.year in
    let key : c.from-key.result ≡ mask_key c.args.rule.now c.args.year = c.from-key.ensures ∙ rw year at c.mask_key.ensures.value in
    masks_more _ c.args.kept.now.items c.args.year c.year_mask-mask.result c.from-key.result key (rw (← c.from-key.ensures) at c.mask_key.ensures.below)
    (rw (to_z-of_z c.ranges.start_day, year) at c.year_mask-mask.ensures) c.requires.kept
