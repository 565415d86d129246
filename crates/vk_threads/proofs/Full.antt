-- What finds no room finds none with more actions either.
use Rattle.std.proofs.Common.{List, ◌++◌, inl, inr}
use Rattle.vk_port.specs.Ports.{Action, PortValue}
use Rattle.vk_threads.specs.Works.{FindsFull}
use Rattle.vk_threads.proofs.Playing.{dropped_append}

pub full_after : (p : PortValue) (xs ys : List Action) → FindsFull p ys → FindsFull p (xs ++ ys)
full_after p xs ys (inl used) = inl used
full_after p xs ys (inr (inl dropped)) = inr (inl (dropped.0, dropped_append dropped.0 xs ys dropped.1, dropped.2))
full_after p xs ys (inr (inr full)) = inr (inr full)
