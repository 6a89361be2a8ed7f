-- The limits of a layout card, each named once: those of document 01, moved by requests 4 and 6 of document 02.
use Rattle.std.specs.Prelude.{ℕ, ℤ, pos, neg_ℤ}

-- the shard has 1 to 8 iters, the replica 0 to 4
abbrev pub most_shard : ℕ
most_shard = 8

abbrev pub most_replica : ℕ
most_replica = 4

-- extents 1 to 65,536
abbrev pub most_extent : ℕ
most_extent = 65536

-- strides and offsets -65,536 to 65,535
abbrev pub least_stride : ℤ
least_stride = neg_ℤ (pos 65536)

abbrev pub most_stride : ℤ
most_stride = pos 65535

-- axes, by number: 0 pid, 1 warpid, 2 laneid, 3 P, 4 F, 5 TLane, 6 TCol, 7 m
abbrev pub last_axis : ℕ
last_axis = 7

-- one length per axis, 1 to 65,536; the product (the cells) at most 65,536
abbrev pub most_length : ℕ
most_length = 65536

abbrev pub most_cells : ℕ
most_cells = 65536

-- the product of shard extents at most 65,536, of replica extents at most 64
abbrev pub most_elements : ℕ
most_elements = 65536

abbrev pub most_copies : ℕ
most_copies = 64
