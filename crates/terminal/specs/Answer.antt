-- What a terminal answers goes behind what a lent row holds already.
use Rattle.std.specs.Prelude.{◌≡◌, ℕ, ◌+◌, ◌*◌, ◌≤◌, Bool, ◌&&◌, List, [], length, take, drop, ◌==◌, nat_le}
use Rattle.meaning.specs.Bytes.{written}
use Rattle.output.specs.declared.Buffer.{Buffer}
use Rattle.terminal.specs.Terms.{term_on}
use Rattle.terminal.specs.declared.state.Terminal.{Terminal}

-- the bytes that count
abbrev pub said : Buffer → List ℕ
said b = take b.len b.bytes.now

-- as many bytes of the lent row count as before, or at most `most` more; what lies behind is kept
pub record Behind (most : ℕ) (old new : Buffer) : Type 0 where
  pub least : old.len ≤ new.len
  pub few : new.len ≤ old.len + most
  pub kept : drop new.len new.bytes.now ≡ drop new.len old.bytes.now
  pub long : length new.bytes.now ≡ length old.bytes.now
  pub same_row : new.bytes.ghost_name ≡ old.bytes.ghost_name

-- up to 4,096 bytes can be fed, with the cells of the screen and room for ten bytes of answer to each
abbrev pub can_feed : Terminal → List ℕ → List ℕ → List ℕ → Bool
can_feed t cells bytes out = length cells == t.size.high * t.size.wide && (nat_le (length bytes) 4096 && nat_le (10 * length bytes) (length out))

-- the bytes have been written: the state t and the cells became t₁ and cells₁, and the first r bytes of the lent row are the answer
pub record Fed (t : Terminal) (cells bytes out : List ℕ) (r : ℕ) (t₁ : Terminal) (cells₁ out₁ : List ℕ) : Type 0 where
  pub term : term_on t₁ cells₁ (take r out₁) ≡ written (term_on t cells []) bytes
  pub wide : t₁.size.wide ≡ t.size.wide
  pub high : t₁.size.high ≡ t.size.high
  pub few : r ≤ 10 * length bytes
  pub kept : drop r out₁ ≡ drop r out
