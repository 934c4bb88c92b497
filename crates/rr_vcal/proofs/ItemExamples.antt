-- Worked cases of the order of items, and of counted members of vCalendar rules.
use Rattle.std.proofs.Common.{◌≡◌, [], ◌∷◌, pos, neg_ℤ, true, Less, Greater, refl}
use Rattle.rr_model.specs.Vcal.Items.{item_lt, item_cmp, item_eq, group_of}
use Rattle.rr_model.specs.Vcal.Members.{is_vcal_candidate, vcal_members_to}
use Rattle.rr_model.specs.Whole.Count.{count_from}
use Rattle.rr_model.specs.declared.item.Item.TheVariants.{Every, MonthDay, Place}
use Rattle.rr_model.specs.declared.kind.Kind.TheVariants.{Days}
use Rattle.rr_model.specs.declared.rule.End.TheVariants.{Never}
use Rattle.rr_model.specs.declared.vcal.FamilyKind.TheVariants.{D}

-- days of the month from the front come before those from the back, and the last one before the one before it
of_days :
    (item_lt (MonthDay (pos 31)) (MonthDay (neg_ℤ (pos 1))) ≡ true)
    × (item_cmp (MonthDay (neg_ℤ (pos 1))) (MonthDay (neg_ℤ (pos 2))) ≡ Less)
    × (item_cmp (Place (pos 2) 0) (Place (pos 1) 4) ≡ Greater)
    × (item_eq (Place (pos 1) 4) (Place (pos 1) 4) ≡ true)
    × (group_of 2 (neg_ℤ (pos 1)) ≡ 3)
of_days = (refl, refl, refl, refl, refl)

-- every second day from 1970-01-01 on: three up to 1970-01-06
of_members : vcal_members_to (record { family = D; interval = 2; items = Every ∷ []; end = Never }) Days (pos 0) (pos 5) ≡ 3
unfolding count_from is_vcal_candidate
of_members = refl
