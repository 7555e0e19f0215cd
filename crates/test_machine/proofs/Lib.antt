mod Risen
