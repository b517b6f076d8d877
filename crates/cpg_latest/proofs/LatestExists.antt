-- Under a topological order and any frozen times each outcome has latest times. They are found by applying the rules to times
-- again and again: each round settles the times of one moment more.
use Rattle.std.proofs.Common.{ℕ, zero, suc, ◌≡◌, ◌+◌, ◌-◌, ◌<◌, ◌≤◌, ◌∙◌, Bool, List, [], map, flat_map, Option, None}
use Rattle.std.proofs.Common.{option_to_list, option_map, unwrap_or, arith, refl, sym, ap, ap₂}
use Rattle.cpg_base.specs.Duration.{duration}
use Rattle.cpg_base.specs.Numbers.{numbers_below, greatest}
use Rattle.cpg_base.specs.Graph.{Graph, process_count, item_count}
use Rattle.cpg_base.proofs.Lists.{numbers-Contains, same_map, get_or-map-below}
use Rattle.cpg_order.specs.Urgency.{IsTopological}
use Rattle.cpg_order.proofs.Moments.{last, moment_before_last, end_before_last, moment, moment_of_end, moment_of_start}
use Rattle.cpg_run.specs.Run.{Times, time_by}
use Rattle.cpg_run.proofs.RunUnique.{AgreeBefore, agree_sooner, time_by_same}
use Rattle.cpg_latest.specs.Latest.{AreLatest, with_faults, end_with, latest_end_by}

module _ (g : Graph) (order : List ℕ) (topological : IsTopological g order) (late other : ℕ → Times) where
  -- the latest end of a process with n faults rests only on times before its moment, with n faults or fewer
  pub latest_end_same : (p n : ℕ) → p < process_count g →
      ((i : ℕ) → i ≤ n → AgreeBefore g order (late i) (other i) (moment_of_end g order p)) →
      latest_end_by g late n p ≡ latest_end_by g other n p
  latest_end_same p n within a =
      let start = moment_of_start g order topological p within in
      ap₂ (λ o v. option_map (λ begin. v) o) ((a n (omega arith)).items p (omega arith) (omega (arith, start)))
      (ap greatest (same_map (end_with g late n p) (end_with g other n p) (numbers_below (n + 1))
      (λ j c. ap (λ o. unwrap_or o 0 + duration g p j)
      ((a (n - j) (omega arith)).items p (omega arith) (omega (arith, start))))))

module _ (g : Graph) (order : List ℕ) (frozen : List (Option ℕ)) (values : List Bool) where
  -- all times made anew by the rules of latest times from given ones
  abbrev again : (ℕ → Times) → ℕ → Times
  again late n = record {
    times = map (time_by g order frozen (with_faults values []) (late n)) (numbers_below (item_count g));
    ends = map (latest_end_by g late n) (numbers_below (process_count g));
    finish = greatest (flat_map option_to_list (map (latest_end_by g late n) (numbers_below (process_count g))));
  }

  -- the times that the rules make in so many rounds, from no times at all
  abbrev again_and_again : ℕ → ℕ → Times
  again_and_again zero n = record { times = []; ends = []; finish = 0 }
  again_and_again (suc m) n = again (again_and_again m) n

  module _ (topological : IsTopological g order) where
    -- after m rounds the times before the moment m no longer change: by induction on m, as each rests on earlier moments
    settled : (m n : ℕ) → AgreeBefore g order (again_and_again m n) (again_and_again (suc m) n) m
    settled zero n = record { items = λ x h k. absurd (omega arith); ends = λ p h k. absurd (omega arith) }
    settled (suc m) n = record {
      items = λ x h k.
          get_or-map-below (time_by g order frozen (with_faults values []) (again_and_again m n))
          (item_count g) x None h
          ∙ time_by_same g order topological (with_faults values []) (again_and_again m n)
          (again_and_again (suc m) n) frozen frozen x
          (agree_sooner g order _ _ (moment g order x) m (omega arith) (settled m n)) h refl
          ∙ sym (get_or-map-below (time_by g order frozen (with_faults values []) (again_and_again (suc m) n))
          (item_count g) x None h);
      ends = λ p h k.
          get_or-map-below (latest_end_by g (again_and_again m) n) (process_count g) p None h
          ∙ latest_end_same g order topological (again_and_again m) (again_and_again (suc m)) p n h
          (λ i few. agree_sooner g order _ _ (moment_of_end g order p) m (omega arith) (settled m i))
          ∙ sym (get_or-map-below (latest_end_by g (again_and_again (suc m)) n) (process_count g) p None h);
    }

    -- the times after one round more than there are moments, for each number of faults
    pub the_latest : ℕ → Times
    the_latest = again_and_again (suc (last g))

    -- they are the latest times of the outcome, as the last round changed nothing
    pub latest_exist : AreLatest g order frozen values the_latest
    unfolding the_latest
    latest_exist = record {
      times = λ n few. same_map (time_by g order frozen (with_faults values []) (again_and_again (last g) n))
          (time_by g order frozen (with_faults values []) (again_and_again (suc (last g)) n))
          (numbers_below (item_count g))
          (λ x there. let within = numbers-Contains (item_count g) x there in
          let sooner = moment_before_last g order topological x within in
          time_by_same g order topological (with_faults values []) (again_and_again (last g) n)
          (again_and_again (suc (last g)) n) frozen frozen x
          (agree_sooner g order _ _ (moment g order x) (last g) (omega arith) (settled (last g) n)) within refl);
      ends = λ n few. same_map (latest_end_by g (again_and_again (last g)) n)
          (latest_end_by g (again_and_again (suc (last g))) n) (numbers_below (process_count g))
          (λ p there. let within = numbers-Contains (process_count g) p there in
          let sooner = end_before_last g order topological p within in
          latest_end_same g order topological (again_and_again (last g)) (again_and_again (suc (last g))) p n within
          (λ i few. agree_sooner g order _ _ (moment_of_end g order p) (last g) (omega arith) (settled (last g) i)));
      finish = λ n few. refl;
    }
