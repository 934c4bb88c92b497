-- The moments of a local time are found stretch by stretch.
use Rattle.std.proofs.Common.{◌≡◌, inl, inr, None, Some, ℤ, pos, neg_ℤ, ◌+ℤ◌, ◌-ℤ◌, ◌≤ℤ◌, ◌<ℤ◌, arith}
use Rattle.std.specs.Int.{int_max}
use Rattle.std.proofs.lemmas.Int.{by_lt_z, clamps, ints}
use Rattle.rr_true.specs.Moments.{IsOffset, IsTrueMoment, local_at}
use Rattle.rr_true.specs.Spans.{IsFirstFrom, IsFirstReached, IsNamedIn, IsSpan}
use Rattle.rr_true.specs.declared.span.Span.{Span}

-- local time is earlier at each moment before this one
abbrev pub IsEarlierBefore : (ℤ → ℤ) → ℤ → ℤ → Type 0
IsEarlierBefore offset t from = (v : ℤ) → v <ℤ from → local_at offset v <ℤ t

-- no moment of some before this one has the local time
abbrev pub HasNoneBefore : (ℤ → ℤ) → ℤ → ℤ → ℤ → Type 0
HasNoneBefore offset t from start = (v : ℤ) → from ≤ℤ v → v <ℤ start → local_at offset v ≡ t → ⊥

module _ (offset : ℤ → ℤ) (t : ℤ) where
  -- a day before, local time is earlier
  pub earlier_before : IsOffset offset → IsEarlierBefore offset t (t -ℤ pos 86_400)
  earlier_before h v l = let high : offset v <ℤ pos 86_400 = (h v).1 in omega (arith, ints, l, high)

  -- the stretch in which local time comes to the one that is sought
  pub reached_here : (from u : ℤ) (span : Span) → IsSpan offset from span → IsEarlierBefore offset t from → u ≡ int_max (t -ℤ span.offset) from
      → (t -ℤ span.offset) <ℤ span.end → IsFirstReached offset t u
  reached_here from u span s before is within =
      let later = s.later in
      let low : from ≤ℤ u = omega (arith, ints, clamps, is) in
      let high : u <ℤ span.end = omega (arith, ints, clamps, is, within, later) in
      let here : offset u ≡ span.offset = s.one u low high in
      record {
        reached = omega (arith, ints, clamps, is, here);
        first = λ v l.
            by_lt_z {P = (v +ℤ offset v) <ℤ t} v from (before v)
            (λ m.
            let there : offset v ≡ span.offset = s.one v m (omega (arith, ints, l, high)) in
            omega (arith, ints, clamps, is, l, m, there));
      }

  -- one in which it does not
  pub not_reached : (from : ℤ) (span : Span) → IsSpan offset from span → IsEarlierBefore offset t from → span.end ≤ℤ (t -ℤ span.offset)
      → IsEarlierBefore offset t span.end
  not_reached from span s before l v m =
      by_lt_z {P = (v +ℤ offset v) <ℤ t} v from (before v)
      (λ n. let there : offset v ≡ span.offset = s.one v n m in omega (arith, ints, there, l, m))

  -- the first moment of a stretch is the first of all if none came before
  pub named_here : (from start u : ℤ) (span : Span) → IsSpan offset start span → from ≤ℤ start → HasNoneBefore offset t from start
      → IsNamedIn start span t (Some u) → IsFirstFrom offset from t (Some u)
  named_here from start u span s l none (low, high, has) =
      let here : offset u ≡ span.offset = s.one u low high in (
        omega (arith, ints, l, low),
        omega (arith, ints, here, has),
        λ v m n e.
            by_lt_z {P = ⊥} v start (λ k. none v m k e)
            (λ k.
            let there : offset v ≡ span.offset = s.one v k (omega (arith, ints, n, high)) in
            let same : (v +ℤ offset v) ≡ t = e in
            omega (arith, ints, there, same, has, n)),
      )

  pub none_here : (from start : ℤ) (span : Span) → IsSpan offset start span → HasNoneBefore offset t from start
      → IsNamedIn start span t None → HasNoneBefore offset t from span.end
  none_here from start span s none named v m n e =
      by_lt_z {P = ⊥} v start (λ k. none v m k e)
      (λ k.
      let there : offset v ≡ span.offset = s.one v k n in
      let same : (v +ℤ offset v) ≡ t = e in
      named v k n (omega (arith, ints, there, same)))

  -- a day later, local time is past
  pub none_after : (from start : ℤ) → IsOffset offset → HasNoneBefore offset t from start → (t +ℤ pos 86_400) <ℤ start → IsFirstFrom offset from t None
  none_after from start h none l v m e =
      by_lt_z {P = ⊥} v start (λ k. none v m k e)
      (λ k.
      let low : neg_ℤ (pos 86_400) <ℤ offset v = (h v).0 in
      let same : (v +ℤ offset v) ≡ t = e in
      omega (arith, ints, l, k, low, same))

  -- the first moment that has the local time, or the gap
  pub named : (reached u : ℤ) → IsFirstReached offset t reached → IsFirstFrom offset reached t (Some u) → IsTrueMoment offset t u
  named reached u r (low, has, none) = inl (record {
    has = has;
    first = λ v l e.
        by_lt_z {P = ⊥} v reached
        (λ k. let before : (v +ℤ offset v) <ℤ t = r.first v k in let same : (v +ℤ offset v) ≡ t = e in omega (arith, ints, before, same))
        (λ k. none v k l e);
  })

  pub skipped : (reached u : ℤ) → IsFirstReached offset t reached → IsFirstFrom offset reached t None → u ≡ t -ℤ offset (reached -ℤ pos 1)
      → IsTrueMoment offset t u
  skipped reached u r none read =
      let here : t ≤ℤ (reached +ℤ offset reached) = r.reached in
      inr (record {
        none = λ v e.
            by_lt_z {P = ⊥} v reached
            (λ k. let before : (v +ℤ offset v) <ℤ t = r.first v k in let same : (v +ℤ offset v) ≡ t = e in omega (arith, ints, before, same))
            (λ k. none v k e);
        gap = reached;
        past =
            by_lt_z {P = t <ℤ (reached +ℤ offset reached)} t (reached +ℤ offset reached) (λ k. k)
            (λ k. absurd (none reached (omega (arith, ints)) (omega (arith, ints, here, k))));
        not_before = r.first;
        read = read;
      })
