-- A byte is one of some thirty control functions, a report, a character or a step of the parser: what each of these keeps, every byte keeps.
use Rattle.std.proofs.Common.{◌≡◌, ℕ, suc, ◌+◌, ◌-◌, ◌*◌, ◌/◌, ◌≤◌, Bool, true, false, not, ◌&&◌, eqb, ltb, leb, List, [], ◌∷◌, get_or, arith}
use Rattle.std.proofs.lemmas.Bool.{cond_both, ltb-false, leb-false, eqb-true, eqb-false}
use Rattle.meaning.specs.Words.{pick, or, smaller, none_of}
use Rattle.meaning.specs.Screen.{Term, Reading, ground_state, escape, sequence, passed, string, string_end, fresh, at, with_reading, with_answer, with_style, row_on, row_back, change_row, opened, closed, wiped, printed, goes_to, goes_up, goes_down, wipe_row, wipe_all, lines_in, lines_out, up_by, down_by, region, styled, save, restore}
use Rattle.meaning.specs.Bytes.{control, one_of, answers, modes, done_sequence, done_escape, all_numbers, byte_of_sequence, byte_read, is_string, back_to_ground, low_byte, byte, written}

pub pick_both : {A : Type 0} (P : A → Type 0) (b : Bool) (x y : A) → P x → P y → P (pick b x y)
pick_both P true x y p q = p
pick_both P false x y p q = q

-- each control function keeps P; but the report, which alone changes what the program is told, stands apart
pub record Controls (P : Term → Type 0) : Type 0 where
  pub stay : (t : Term) → P t → P t
  pub on : (t : Term) → P t → P (row_on t)
  pub on_first : (t : Term) → P t → P (at (row_on t) (row_on t).row 0)
  pub back : (t : Term) → P t → P (row_back t)
  pub left : (t : Term) (k : ℕ) → P t → P (at t t.row (t.col - k))
  pub column : (t : Term) (k : ℕ) → P t → P (at t t.row (smaller (t.wide - 1) k))
  pub first : (t : Term) → P t → P (at t t.row 0)
  pub up : (t : Term) (k : ℕ) → P t → P (goes_up t k)
  pub down : (t : Term) (k : ℕ) → P t → P (goes_down t k)
  pub up_first : (t : Term) (k : ℕ) → P t → P (at (goes_up t k) (goes_up t k).row 0)
  pub down_first : (t : Term) (k : ℕ) → P t → P (at (goes_down t k) (goes_down t k).row 0)
  pub to : (t : Term) (r c : ℕ) → P t → P (goes_to t r c)
  pub erase_row : (t : Term) (k : ℕ) → P t → P (wipe_row t k)
  pub erase_all : (t : Term) (k : ℕ) → P t → P (wipe_all t k)
  pub erase_some : (t : Term) (k : ℕ) → P t → P (change_row t (wiped t.col (t.col + k)))
  pub insert : (t : Term) (k : ℕ) → P t → P (change_row t (opened t.wide t.col k))
  pub delete : (t : Term) (k : ℕ) → P t → P (change_row t (closed t.wide t.col k))
  pub insert_rows : (t : Term) (k : ℕ) → P t → P (lines_in t k)
  pub delete_rows : (t : Term) (k : ℕ) → P t → P (lines_out t k)
  pub scroll_up : (t : Term) (k : ℕ) → P t → P (up_by t k)
  pub scroll_down : (t : Term) (k : ℕ) → P t → P (down_by t k)
  pub set_region : (t : Term) (a b : ℕ) → P t → P (region t a b)
  pub restyle : (t : Term) (ns : List ℕ) → P t → P (with_style t (styled t.style ns))
  pub set_modes : (v private : Bool) (t : Term) (ns : List ℕ) → P t → P (modes v private t ns)
  pub saves : (t : Term) → P t → P (save t)
  pub restores : (t : Term) → P t → P (restore t)
  pub resets : (t : Term) → P t → P (with_answer (fresh t.wide t.high) t.answer)

module _ (P : Term → Type 0) (k : Controls P) where
  pub control_keeps : (t : Term) (c : ℕ) → P t → P (control t c)
  control_keeps t c p =
      pick_both P (eqb c 8) _ _ (k.left t 1 p)
      (pick_both P (eqb c 9) _ _ (k.column t (8 * suc (t.col / 8)) p)
      (pick_both P (eqb c 13) _ _ (k.first t p) (pick_both P (leb 10 c && leb c 12) _ _ (k.on t p) (k.stay t p))))

  pub escape_keeps : (t : Term) (c : ℕ) → P t → P (done_escape t c)
  escape_keeps t c p =
      pick_both P (eqb c 55) _ _ (k.saves t p) (pick_both P (eqb c 56) _ _ (k.restores t p) (pick_both P (eqb c 68) _ _ (k.on t p) (pick_both P (eqb c 77) _ _ (k.back t p)
      (pick_both P (eqb c 69) _ _ (k.on_first t p) (pick_both P (eqb c 99) _ _ (k.resets t p) (k.stay t p))))))

  pub sequence_keeps : (t : Term) (private : Bool) (ps : List ℕ) (c : ℕ) → (c ≡ 110 → P (answers t (get_or ps 0 0))) → P t → P (done_sequence t private ps c)
  sequence_keeps t private ps c reported p =
      let n : ℕ = one_of ps 0 in
      pick_both P private _ _
      (pick_both P (eqb c 104) _ _ (k.set_modes true true t ps p) (pick_both P (eqb c 108) _ _ (k.set_modes false true t ps p) (k.stay t p)))
      (pick_both P (eqb c 65) _ _ (k.up t n p) (pick_both P (eqb c 66) _ _ (k.down t n p)
      (pick_both P (eqb c 67) _ _ (k.column t (t.col + n) p) (pick_both P (eqb c 68) _ _ (k.left t n p)
      (pick_both P (eqb c 69) _ _ (k.down_first t n p) (pick_both P (eqb c 70) _ _ (k.up_first t n p)
      (pick_both P (eqb c 71) _ _ (k.column t (n - 1) p) (pick_both P (eqb c 100) _ _ (k.to t (n - 1) t.col p)
      (pick_both P (or (eqb c 72) (eqb c 102)) _ _ (k.to t (n - 1) (one_of ps 1 - 1) p)
      (pick_both P (eqb c 74) _ _ (k.erase_all t (get_or ps 0 0) p) (pick_both P (eqb c 75) _ _ (k.erase_row t (get_or ps 0 0) p)
      (pick_both P (eqb c 76) _ _ (k.insert_rows t n p) (pick_both P (eqb c 77) _ _ (k.delete_rows t n p)
      (pick_both P (eqb c 64) _ _ (k.insert t n p) (pick_both P (eqb c 80) _ _ (k.delete t n p)
      (pick_both P (eqb c 88) _ _ (k.erase_some t n p)
      (pick_both P (eqb c 83) _ _ (k.scroll_up t n p) (pick_both P (eqb c 84) _ _ (k.scroll_down t n p)
      (pick_both P (eqb c 114) _ _ (k.set_region t n (get_or ps 1 0) p) (pick_both P (eqb c 109) _ _ (k.restyle t (pick (none_of ps) (0 ∷ []) ps) p)
      (pick_both P (eqb c 104) _ _ (k.set_modes true false t ps p) (pick_both P (eqb c 108) _ _ (k.set_modes false false t ps p)
      (cond_both (eqb c 110) _ _ P (λ e. reported (eqb-true c 110 e)) (λ _. pick_both P (eqb c 115) _ _ (k.saves t p) (pick_both P (eqb c 117) _ _ (k.restores t p) (k.stay t p))))))))))))))))))))))))))

-- what control functions, reports, characters and the parser's steps keep, every byte keeps
pub record Steps (P : Term → Type 0) : Type 0 where
  pub controls : Controls P
  pub report : (t : Term) (k : ℕ) → P t → P (answers t k)
  pub print : (t : Term) (c : ℕ) → 32 ≤ c → c ≤ 126 → P t → P (printed t c)
  pub reads : (t : Term) (r : Reading) → P t → P (with_reading t r)

module _ (P : Term → Type 0) (k : Steps P) where
  low_byte_keeps : (t : Term) (c : ℕ) → P t → P (low_byte t c)
  unfolding low_byte
  low_byte_keeps t c p =
      pick_both P (eqb c 27) _ _ (k.reads t _ p)
      (pick_both P (is_string t.reading) _ _ (pick_both P (eqb c 7) _ _ (k.reads t ground_state p) (k.reads t string p))
      (pick_both P (or (eqb c 24) (eqb c 26)) _ _ (k.reads t ground_state p) (control_keeps P k.controls t c p)))

  sequence_byte_keeps : (t : Term) (private : Bool) (ps now : List ℕ) (c : ℕ) → P t → P (byte_of_sequence t private ps now c)
  sequence_byte_keeps t private ps now c p =
      pick_both P (leb 48 c && leb c 57) _ _ (k.reads t _ p)
      (pick_both P (eqb c 59) _ _ (k.reads t _ p)
      (pick_both P (eqb c 63) _ _ (pick_both P (none_of ps && (none_of now && not private)) _ _ (k.reads t _ p) (k.reads t _ p))
      (pick_both P (leb 64 c) _ _
      (let g = k.reads t ground_state p in sequence_keeps P k.controls (back_to_ground t) private _ c (λ _. k.report (back_to_ground t) (get_or (all_numbers ps now) 0 0) g) g)
      (k.reads t _ p))))

  byte_read_keeps : (t : Term) (r : Reading) (c : ℕ) → 32 ≤ c → (c ≡ 127 → ⊥) → P t → P (byte_read t r c)
  byte_read_keeps t ground_state c a b p =
      cond_both (leb 128 c) 63 c (λ x. P (printed t x)) (λ _. k.print t 63 (omega arith) (omega arith) p)
      (λ e. k.print t c a (let z = leb-false 128 c e in omega arith) p)
  byte_read_keeps t escape c a b p =
      pick_both P (eqb c 91) _ _ (k.reads t _ p) (pick_both P (eqb c 93) _ _ (k.reads t _ p)
      (pick_both P (leb 32 c && leb c 47) _ _ (k.reads t _ p) (escape_keeps P k.controls (back_to_ground t) c (k.reads t ground_state p))))
  byte_read_keeps t (sequence private ps now) c a b p = pick_both P (leb 128 c) _ _ (k.reads t _ p) (sequence_byte_keeps t private ps now c p)
  byte_read_keeps t passed c a b p = pick_both P (leb 64 c && leb c 126) _ _ (k.reads t _ p) p
  byte_read_keeps t string c a b p = p
  byte_read_keeps t string_end c a b p = pick_both P (eqb c 92) _ _ (k.reads t _ p) (k.reads t _ p)

  pub byte_keeps : (t : Term) (c : ℕ) → P t → P (byte t c)
  unfolding byte
  byte_keeps t c p =
      cond_both (ltb c 32) _ _ P (λ _. low_byte_keeps t c p)
      (λ a. cond_both (eqb c 127) _ _ P (λ _. p) (λ b. byte_read_keeps t t.reading c (ltb-false c 32 a) (eqb-false c 127 b) p))

  pub written_keeps : (t : Term) (cs : List ℕ) → P t → P (written t cs)
  unfolding written
  written_keeps t [] p = p
  written_keeps t (c ∷ cs) p = written_keeps (byte t c) cs (byte_keeps t c p)
