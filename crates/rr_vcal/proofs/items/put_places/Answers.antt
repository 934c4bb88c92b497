use Rattle.std.proofs.Common.{rules, ◌≡◌, ℕ, ◌+◌, ◌<◌, List, length, drop, get_or, ℤ, pos, sym, ap, ◌∙◌, w16, to_z, of_z}
use Rattle.std.proofs.lemmas.List.{drop_more}
use Rattle.rr_model.specs.Rising.{with_value}
use Rattle.rr_model.specs.Vcal.Items.{item_lt}
use Rattle.rr_model.specs.Vcal.Rule.{put_places}
use Rattle.rr_model.specs.declared.item.Item.{Item}
use Rattle.rr_model.specs.declared.item.Item.TheVariants.{Place}
use Rattle.rr_vcal.proofs.items.put_places.Goals as goal

-- one place more
put_next : (items : List Item) (weekday : ℕ) (places : List ℤ) (i : ℕ) (place : ℤ) (item : Item) (more all : List Item) → i < length places
    → place ≡ get_or places i (pos 0) → item ≡ Place place weekday → more ≡ with_value item_lt items item → put_places items weekday (drop i places) ≡ all
    → put_places more weekday (drop (i + 1) places) ≡ all
put_next items weekday places i place item more all l is made put so_far =
    ap (λ m. put_places m weekday (drop (i + 1) places)) (put ∙ ap (with_value item_lt items) (made ∙ ap (λ n. Place n weekday) is))
    ∙ sym (ap (put_places items weekday) (drop_more places i (pos 0) l)) ∙ so_far

pub loop-place-preserved : goal.loop-place-preserved
loop-place-preserved c =
    put_next c.loop-place.items c.args.weekday c.args.places.now c.loop-place.place-index
    (to_z w16 (of_z w16 (get_or c.args.places.now c.loop-place.place-index (pos 0)))) c.place_item.result c.put.new.self _ c.loop-place-test.true
    (search rules) c.place_item.ensures c.in_ok-put.ensures.ok c.loop-place.invariant
