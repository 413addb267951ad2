-- The lines that a reading needs, by their marks and by the history.
use Rattle.std.proofs.Common.{◌≡◌, ℕ, zero, suc, ◌+◌, ◌-◌, ◌*◌, ◌/◌, ◌<◌, ◌≤◌, max, true, false, sym, refl, ap, ◌∙◌, subst, ap₂, inl, inr, add-one, arith}
use Rattle.std.proofs.lemmas.Bool.{cases_eq}
use Rattle.surface.proofs.Below.{at_below, fails_below}
use Rattle.line.specs.Line.{OnLine, clamped}
use Rattle.panel.specs.declared.record.Order.{Order}
use Rattle.panel.specs.declared.record.Order.TheVariants.{RowsFirst, ColumnsFirst}
use Rattle.grid.specs.Grid.{Grid}
use Rattle.panel.specs.Calls.{State, pick, first_lines, second_lines, mark, grade_of, is_current}
use Rattle.panel.specs.Reading.{needed, needed_current, greatest, tolerance}
use Rattle.panel.specs.Runs.{History, ran_since, first_grade, second_grade, first_most, second_most}
use Rattle.panel.proofs.Fits.{on_clamped}
use Rattle.panel.proofs.Invariant.{Invariant, few_lines}

-- Greatest values

pub greatest_same : (f g : ℕ → ℕ) (n : ℕ) → ((i : ℕ) → OnLine n i → f i ≡ g i) → greatest f n ≡ greatest g n
greatest_same f g zero e = refl
greatest_same f g (suc n) e = ap₂ max (e (suc n) (omega arith)) (greatest_same f g n (λ i on. e i (omega arith)))

pub greatest_more : (f : ℕ → ℕ) (i most grade new : ℕ) → most ≡ greatest f i → grade ≡ f (i + 1) → new ≡ max grade most → new ≡ greatest f (i + 1)
greatest_more f i most grade new a b e = rw add-one (e ∙ ap₂ max (b ∙ ap f (add-one i)) a)

-- 0 past a number: only what stands before it counts.
pub greatest_used : (f : ℕ → ℕ) (used n : ℕ) → used ≤ n → ((i : ℕ) → used < i → i ≤ n → f i ≡ 0) → greatest f used ≡ greatest f n
greatest_used f used zero few past = let none : used ≡ 0 = omega arith in ap (greatest f) none
greatest_used f used (suc n) few past =
    elim (cases_eq used (suc n)) [
      | inl same ↦ ap (greatest f) same
      | inr other ↦ greatest_used f used n (omega arith) (λ i low high. past i low (omega arith)) ∙ last (past (suc n) (omega arith) (omega arith))
    ]
  where
    last : f (suc n) ≡ 0 → greatest f n ≡ max (f (suc n)) (greatest f n)
    last none = omega arith

pub greatest_above : (f : ℕ → ℕ) (n i : ℕ) → OnLine n i → f i ≤ greatest f n
greatest_above f zero i on = absurd (omega arith)
greatest_above f (suc n) i on = elim (cases_eq i (suc n)) [ inl e ↦ omega (arith, ap f e) | inr e ↦ omega (arith, greatest_above f n i (omega arith)) ]

-- The sixteen points around a place lie on first lines and on the needed second lines.
pub around_by : (o : Order) (rows columns x y : ℕ) (P : ℕ → ℕ → Type 0) → 1 ≤ rows → 1 ≤ columns →
    ((i k : ℕ) → OnLine (pick o rows columns) i → k < 4 →
    P (pick o i (clamped (pick o columns rows) (pick o y x / 32 + k - 1))) (pick o (clamped (pick o columns rows) (pick o y x / 32 + k - 1)) i)) →
    (a b : ℕ) → a < 4 → b < 4 → P (clamped rows (x / 32 + a - 1)) (clamped columns (y / 32 + b - 1))
around_by RowsFirst rows columns x y P some_row some_column h a b a_low b_low = h (clamped rows (x / 32 + a - 1)) b (on_clamped rows _ some_row) b_low
around_by ColumnsFirst rows columns x y P some_row some_column h a b a_low b_low = h (clamped columns (y / 32 + b - 1)) a (on_clamped columns _ some_column) a_low

-- In a state that calls have reached

module _ (parts : ℕ) (m : Grid) (st : State) (h : History) (inv : Invariant parts m st h) (x y : ℕ) where
  pub on_needed : (a : ℕ) → OnLine (second_lines st.panel) (needed st.panel x y a)
  on_needed a = on_clamped (second_lines st.panel) _ (omega (arith, few_lines st.panel inv.rows_within inv.columns_within))

  -- the marks that read asks are what the history says
  pub needed_ran : needed_current st.panel x y ≡ true → (a : ℕ) → a < 4 → ran_since h (needed st.panel x y a) ≡ true
  unfolding needed_current
  needed_ran e a b = sym (inv.second_current (needed st.panel x y a) (on_needed a)) ∙ at_below 4 (λ a. is_current (mark st.panel.second (needed st.panel x y a))) e a b

  pub needed_stale : needed_current st.panel x y ≡ false → (a : ℕ) × (a < 4) × (ran_since h (needed st.panel x y a) ≡ false)
  unfolding needed_current
  needed_stale e =
      let (a, b, f) = fails_below 4 (λ a. is_current (mark st.panel.second (needed st.panel x y a))) e in
      (a, b, sym (inv.second_current (needed st.panel x y a) (on_needed a)) ∙ f)

  -- and so are the grades
  pub tolerance_is : tolerance st.panel x y ≡ second_most st.panel h x y + 3 * first_most st.panel h + 1
  tolerance_is =
      ap₂ (λ a b. a + 3 * b + 1)
      (greatest_same (λ a. grade_of (mark st.panel.second (needed st.panel x y (a - 1)))) (λ a. second_grade h (needed st.panel x y (a - 1))) 4 (λ a on. inv.second_graded _ (on_needed (a - 1))))
      (greatest_same (λ i. grade_of (mark st.panel.first i)) (first_grade h) (first_lines st.panel) (λ i on. inv.first_graded i on))

  pub needed_below_most : (a : ℕ) → a < 4 → second_grade h (needed st.panel x y a) ≤ second_most st.panel h x y
  needed_below_most a b = subst (λ k. second_grade h (needed st.panel x y k) ≤ second_most st.panel h x y) (omega arith) (greatest_above (λ a. second_grade h (needed st.panel x y (a - 1))) 4 (a + 1) (omega arith))

  pub first_below_most : (i : ℕ) → OnLine (first_lines st.panel) i → first_grade h i ≤ first_most st.panel h
  first_below_most i on = greatest_above (first_grade h) (first_lines st.panel) i on
