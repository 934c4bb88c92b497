use Rattle.rr_trip.proofs.detail.detail_of.Goals as goal

pub returns : goal.returns
returns g c =
    let in_a = c.as_slice-in_a.ensures.value in
    let in_b = c.as_slice-in_b.ensures.value in record {
      of_a = rw in_a at c.in_ok-series_a.ensures.is;
      of_b = rw in_b at c.in_ok-series_b.ensures.is;
      valid_a = c.in_ok-series_a.ensures.valid;
      valid_b = c.in_ok-series_b.ensures.valid;
      differs = rw (in_a, in_b) at c.in_ok-difference.ensures;
    }
