-- Fingerprints of names, by which those that may be equal are found. No promise of a public call names them.
use Rattle.std.specs.Prelude.{◌≡◌, ℕ, zero, suc, ◌+◌, ◌*◌, ◌%◌, ◌^◌, ◌<◌, ◌⊎◌, List, length, slice_index, get_or}
use Rattle.message.specs.Layout.{Entry}

abbrev pub fingerprints : ℕ
fingerprints = 1024

-- the owner of a fingerprint that more than one entry has
abbrev pub several : ℕ
several = 255

-- the weights of places: from 1 to so many
abbrev pub weights : ℕ
weights = 256

-- from one place's weight to the next, chosen so that names which differ in a digit or two seldom share a fingerprint
abbrev pub weight_step : ℕ
weight_step = 161

abbrev pub weight_at : ℕ → ℕ
weight_at k = 1 + k * weight_step % weights

-- the first k bytes of a name, each by the weight of its place
unfoldable pub weighed : ℕ → List ℕ → ℕ
weighed zero name = 0
weighed (suc k) name = (weighed k name + slice_index name k * weight_at k) % 2 ^ 16

unfoldable pub fingerprint_of : List ℕ → ℕ
fingerprint_of name = weighed (length name) name % fingerprints

-- an owner covers each entry before entry i that has its name: it is entry j, as j + 1, or several
abbrev pub Covers : ℕ → (ℕ → Entry) → ℕ → Type 0
Covers i f owner = (j : ℕ) → j < i → (f j).name ≡ (f i).name → (owner ≡ j + 1) ⊎ (owner ≡ several)

-- entry j owns its fingerprint, alone or as one of several
abbrev pub Owned : List ℕ → (ℕ → Entry) → ℕ → Type 0
Owned owners f j = (get_or owners (fingerprint_of (f j).name) 0 ≡ j + 1) ⊎ (get_or owners (fingerprint_of (f j).name) 0 ≡ several)

-- each entry before entry i does
abbrev pub AllOwned : List ℕ → (ℕ → Entry) → ℕ → Type 0
AllOwned owners f i = (j : ℕ) → j < i → Owned owners f j
