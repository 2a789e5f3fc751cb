-- A header is 64 numbers long, and what is stored is loaded again.
use Rattle.std.proofs.Common.{◌≡◌, ℕ, ◌-◌, ◌^◌, ◌<◌, ◌≤◌, Bool, true, false, ltb, List, [], ◌∷◌, ◌++◌, length, get_or, take, replicate, refl, ap, ◌∙◌, arith, length-append, length-take}
use lib.ListN.{length-replicate}
use Rattle.std.specs.List.{AllByRecursion}
use Rattle.std.proofs.lemmas.List.{take-take, take_all, take_at}
use Rattle.std.proofs.ByRecursion.{All-append, All-take, All-weaker}
use Rattle.std.proofs.lemmas.Bool.{and_from, eq-eqb, lt-ltb, le-leb}
use Rattle.std.proofs.lemmas.Bool.Decides.{Decides-ltb}
use Rattle.meaning.specs.Screen.{Style, Cell, Term, Reading, ground_state, escape, sequence, passed, string, string_end, with_rows, with_answer}
use Rattle.meaning.proofs.Edits.{decides_every, all_replicate}
use Rattle.meaning.specs.Promise.{all_small}
use Rattle.grid.proofs.Codes.{unpacked_packed}
use Rattle.header.specs.Header.{yes, bit, style_number, style_from, reading_fits, begun_from, reading_from, header_fits, term_from, numbers_of_screen, has_begun, parser_state, numbers_of_parser, parameters_in, padded, header_of, StyleFits, ReadingFits, InRange, HeaderLong, LoadsBack}

yes_bit : (b : Bool) → yes (bit b) ≡ b
yes_bit true = refl
yes_bit false = refl

style_back : (s : Style) → StyleFits s → style_from (style_number s) ≡ s
style_back s f = ap (λ (c : Cell). c.style) (unpacked_packed (record { sign = 0; style = s }) (omega arith) f.0 f.1)

begun_back : (now : List ℕ) → length now ≤ 1 → begun_from (has_begun now) (get_or now 0 0) ≡ now
begun_back [] h = refl
begun_back (n ∷ []) h = refl
begun_back (n ∷ (k ∷ ns)) h = absurd (omega arith)

padded_back : (ns : List ℕ) → length ns ≤ 16 → take (length ns) (take 16 (padded ns)) ≡ ns
padded_back ns h =
    let l : length ns ≤ 32 = omega arith in
    take-take (length ns) 16 (padded ns) h
    ∙ (ap (λ (xs : List ℕ). take (length ns) (xs ++ replicate (32 - length ns) 0)) (take_all 32 ns l) ∙ take_at ns (replicate (32 - length ns) 0) (length ns) refl)

-- the numbers of a terminal whose parser is at r
numbers : Term → Reading → List ℕ
numbers t r = numbers_of_screen t ++ (numbers_of_parser r ++ padded (parameters_in r))

reading_back : (t : Term) (r : Reading) → ReadingFits r → reading_from (numbers t r) ≡ r
unfolding numbers
reading_back t ground_state f = refl
reading_back t escape f = refl
reading_back t (sequence private ps now) f = λ i. sequence (yes_bit private i) (padded_back ps f.0 i) (begun_back now f.2 i)
reading_back t passed f = refl
reading_back t string f = refl
reading_back t string_end f = refl

all_padded : (P : ℕ → Type 0) → P 0 → (ns : List ℕ) → AllByRecursion P ns → AllByRecursion P (padded ns)
all_padded P z ns p = All-append P (take 32 ns) _ (All-take P 32 ns p) (all_replicate P (32 - length ns) 0 z)

begun_small : (n : ℕ) (now : List ℕ) → 0 < n → AllByRecursion (λ k. k < n) now → get_or now 0 0 < n
begun_small n [] h p = h
begun_small n (k ∷ ns) h p = p.0

reading_accepted : (t : Term) (r : Reading) → ReadingFits r → reading_fits (numbers t r) ≡ true
unfolding numbers
reading_accepted t ground_state f = refl
reading_accepted t escape f = refl
reading_accepted t (sequence private ps now) f =
    let p = (decides_every (λ n. ltb n 65536) (λ n. n < 65536) (λ n. Decides-ltb n 65536) (take 16 (padded ps))).1 (All-take (λ n. n < 65536) 16 (padded ps) (all_padded (λ n. n < 65536) (omega arith) ps f.1)) in
    and_from _ _ (le-leb (length ps) 16 f.0) (and_from _ _ (lt-ltb (get_or now 0 0) 65536 (begun_small 65536 now (omega arith) f.3)) p)
reading_accepted t passed f = refl
reading_accepted t string f = refl
reading_accepted t string_end f = refl

length_parser : (r : Reading) → length (numbers_of_parser r) ≡ 16
length_parser ground_state = refl
length_parser escape = refl
length_parser (sequence private ps now) = refl
length_parser passed = refl
length_parser string = refl
length_parser string_end = refl

length_padded : (ns : List ℕ) → length (padded ns) ≡ 32
length_padded ns = simp (length-append, length-take, length-replicate) (omega arith)

pub header_long : HeaderLong
unfolding header_of
header_long t =
    let r = t.reading in
    let e : length (numbers_of_parser r ++ padded (parameters_in r)) ≡ 48 = length-append (numbers_of_parser r) _ ∙ omega (arith, length_parser r, length_padded (parameters_in r)) in
    length-append (numbers_of_screen t) _ ∙ omega (arith, e)

-- every number is below 2^64
abbrev Word : ℕ → Type 0
Word n = n < 2 ^ 64

bit_word : (b : Bool) → Word (bit b)
bit_word true = omega arith
bit_word false = omega arith

has_begun_word : (now : List ℕ) → Word (has_begun now)
has_begun_word [] = omega arith
has_begun_word (n ∷ ns) = omega arith

state_words : (k : ℕ) → k < 6 → AllByRecursion Word (parser_state k)
state_words k h = (omega arith, all_replicate Word 15 0 (omega arith))

parser_words : (r : Reading) → ReadingFits r → AllByRecursion Word (numbers_of_parser r)
parser_words ground_state f = state_words 0 (omega arith)
parser_words escape f = state_words 1 (omega arith)
parser_words (sequence private ps now) f =
    let few : Word (length ps) = omega (arith, f.0) in
    let begun : Word (has_begun now) = has_begun_word now in
    let value : Word (get_or now 0 0) = omega (arith, begun_small 65536 now (omega arith) f.3) in
    (omega arith, (bit_word private, (few, (begun, (value, all_replicate Word 11 0 (omega arith))))))
parser_words passed f = state_words 3 (omega arith)
parser_words string f = state_words 4 (omega arith)
parser_words string_end f = state_words 5 (omega arith)

parameters_words : (r : Reading) → ReadingFits r → AllByRecursion Word (parameters_in r)
parameters_words ground_state f = tt
parameters_words escape f = tt
parameters_words (sequence private ps now) f = All-weaker (λ n. n < 65536) Word (λ n h. omega arith) ps f.1
parameters_words passed f = tt
parameters_words string f = tt
parameters_words string_end f = tt

style_word : (s : Style) → StyleFits s → Word (style_number s)
style_word s f = omega (arith, f.0, f.1, f.2)

screen_words : (t : Term) → InRange t → AllByRecursion Word (numbers_of_screen t)
screen_words t f = (
  omega arith,
  (
    omega arith,
    (
      omega arith,
      (
        omega arith,
        (
          bit_word t.late,
          (
            style_word t.style f.writes,
            (
              omega arith,
              (
                omega arith,
                (
                  bit_word t.inserts,
                  (
                    bit_word t.wraps,
                    (
                      bit_word t.origin,
                      (
                        bit_word t.shown,
                        (f.saved_row, (f.saved_col, (style_word t.saved.style f.saves, (bit_word t.saved.origin, tt)))),
                      ),
                    ),
                  ),
                ),
              ),
            ),
          ),
        ),
      ),
    ),
  ),
)

term_back : (t : Term) (rs : List (List Cell)) (a : List ℕ) → InRange t → term_from (header_of t) rs a ≡ with_answer (with_rows t rs) a
unfolding term_from header_of numbers
term_back t rs a f =
    λ i. record {
      wide = t.wide;
      high = t.high;
      rows = rs;
      row = t.row;
      col = t.col;
      late = yes_bit t.late i;
      style = style_back t.style f.writes i;
      top = t.top;
      bottom = t.bottom;
      inserts = yes_bit t.inserts i;
      wraps = yes_bit t.wraps i;
      origin = yes_bit t.origin i;
      shown = yes_bit t.shown i;
      saved = record { row = t.saved.row; col = t.saved.col; style = style_back t.saved.style f.saves i; origin = yes_bit t.saved.origin i };
      reading = reading_back t t.reading f.reads i;
      answer = a;
    }

header_accepted : (t : Term) → InRange t → header_fits (header_of t) ≡ true
unfolding header_of numbers header_fits
header_accepted t f =
    let r = t.reading in
    let size = and_from _ _ (lt-ltb 0 t.wide f.some_wide) (and_from _ _ (le-leb t.wide 200 f.narrow) (and_from _ _ (lt-ltb 0 t.high f.some_high) (le-leb t.high 60 f.low))) in
    let cursor = and_from _ _ (lt-ltb t.row t.high f.on_row) (lt-ltb t.col t.wide f.on_col) in
    let region = and_from _ _ (le-leb t.top t.bottom f.ordered) (lt-ltb t.bottom t.high f.inside) in
    and_from _ _ (eq-eqb (length (header_of t)) 64 (header_long t)) (and_from _ _ size (and_from _ _ cursor (and_from _ _ region (reading_accepted t r f.reads))))

header_words : (t : Term) → InRange t → AllByRecursion Word (header_of t)
unfolding header_of
header_words t f =
    let r = t.reading in
    All-append Word (numbers_of_screen t) _ (screen_words t f)
    (All-append Word (numbers_of_parser r) _ (parser_words r f.reads) (all_padded Word (omega arith) (parameters_in r) (parameters_words r f.reads)))

header_small : (t : Term) → InRange t → all_small (header_of t) ≡ true
unfolding all_small
header_small t f = (decides_every (λ n. ltb n (2 ^ 64)) Word (λ n. Decides-ltb n (2 ^ 64)) (header_of t)).1 (header_words t f)

pub loads_back : LoadsBack
loads_back t f = (header_accepted t f, λ rs a. term_back t rs a f, header_small t f)
