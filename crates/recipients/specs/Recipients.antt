-- "Recipients are a 16-bit set, bit c for connection c."
use Rattle.std.specs.Prelude.{ℕ, zero, suc, ◌+◌, ◌/◌, ◌%◌, ◌^◌, ◌<◌, Bool, true, false, not, ◌&&◌, List, ◌≢◌, ◌≡◌, get_or, eqb, Option, Some, None}
use Rattle.field.specs.Choice.{pick}
use Rattle.soundness.specs.Sound.{connections, greeted}

-- to no one, to the sender, "to all greeted connections", "to all other greeted connections"
pub data Recipients : Type 0 where
  nobody : Recipients
  sender : (c : ℕ) → Recipients
  all_greeted : Recipients
  other_greeted : (c : ℕ) → Recipients

abbrev pub is_recipient : Recipients → List ℕ → ℕ → Bool
is_recipient nobody marks c = false
is_recipient (sender d) marks c = eqb c d
is_recipient all_greeted marks c = eqb (get_or marks c 0) greeted
is_recipient (other_greeted d) marks c = eqb (get_or marks c 0) greeted && not (eqb c d)

-- to all greeted connections but one, or to all
abbrev pub greeted_but : Option ℕ → Recipients
greeted_but None = all_greeted
greeted_but (Some d) = other_greeted d

-- so a connection with this mark is one of them
abbrev pub is_greeted_but : Option ℕ → (mark c : ℕ) → Bool
is_greeted_but None mark c = eqb mark greeted
is_greeted_but (Some d) mark c = eqb mark greeted && not (eqb c d)

-- bit c, which weighs 2 ^ c, is set where p c is true, for each c below n
unfoldable pub bit_set : ℕ → (ℕ → Bool) → ℕ
bit_set zero p = 0
bit_set (suc n) p = bit_set n p + pick (p n) (2 ^ n) 0

unfoldable pub test_bit : ℕ → ℕ → Bool
test_bit set c = eqb (set / 2 ^ c % 2) 1

-- the set of those to whom something goes
unfoldable pub recipient_set : Recipients → List ℕ → ℕ
recipient_set to marks = bit_set connections (is_recipient to marks)

-- "bit c for connection c": it is set exactly when c is to receive
abbrev pub RecipientBit : Type 0
RecipientBit = (to : Recipients) (marks : List ℕ) (c : ℕ) → c < connections → test_bit (recipient_set to marks) c ≡ is_recipient to marks c

-- who receives, by the connection's mark: "to all greeted connections, the sender included"; "to all other greeted connections"
pub record GreetedReceive (marks : List ℕ) (c : ℕ) : Type 0 where
  pub greeted_do : get_or marks c 0 ≡ greeted → test_bit (recipient_set all_greeted marks) c ≡ true
  pub others_do : (d : ℕ) → get_or marks c 0 ≡ greeted → c ≢ d → test_bit (recipient_set (other_greeted d) marks) c ≡ true
  pub no_one_else : get_or marks c 0 ≢ greeted
      → (test_bit (recipient_set all_greeted marks) c ≡ false) × ((d : ℕ) → test_bit (recipient_set (other_greeted d) marks) c ≡ false)
  -- "Returning an applied update to its sender" looks right
  pub sender_left_out : test_bit (recipient_set (other_greeted c) marks) c ≡ false

abbrev pub GreetedReceives : Type 0
GreetedReceives = (marks : List ℕ) (c : ℕ) → c < connections → GreetedReceive marks c
